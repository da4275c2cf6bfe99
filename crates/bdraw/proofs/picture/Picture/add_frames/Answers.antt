use Rattle.std.proofs.Common.{◌∙◌, List, subst}
use Rattle.std.specs.List.{flat_map}
use Rattle.std.proofs.lemmas.List.{get_or_default, take_all}
use Rattle.bmach.specs.declared.machine.Active.{Active}
use Rattle.bdraw.specs.Pictures.{call_rows}
use Rattle.bdraw.specs.Stacks.{Adds, drawn_in}
use Rattle.bdraw.proofs.Stacking.{adds_all}
use Rattle.bdraw.proofs.picture.Picture.add_frames.Goals as goal

pub loop-call-preserved : goal.loop-call-preserved
loop-call-preserved g c =
    let scene = c.args.scene.now in
    let words = g.M.Memory.seen_words scene.memory.now in
    adds_all c.deref-call-items.result.now c.loop-call.call-index _ c.loop-call-test.true (get_or_default _ _ _ _ c.loop-call-test.true) (call_rows (drawn_in scene.program.now scene.tables.now) words)
    c.args.self.now c.loop-call.self c.add_frame.new.self c.loop-call.invariant c.in_ok-add_frame.ensures

pub returns : goal.returns
returns g c =
    let scene = c.args.scene.now in
    let rows = call_rows (drawn_in scene.program.now scene.tables.now) (g.M.Memory.seen_words scene.memory.now) in
    subst (λ (calls : List Active). Adds (flat_map rows calls) c.args.self.now c.loop-call.self)
    (take_all c.loop-call.call-index c.deref-call-items.result.now c.loop-call-test.false ∙ c.deref-call-items.ensures.value) c.loop-call.invariant
