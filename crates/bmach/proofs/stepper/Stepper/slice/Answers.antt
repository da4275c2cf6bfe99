use Rattle.std.proofs.Common.{◌≡◌, ◌∙◌, ap, map, subst, sym}
use Rattle.bmach.specs.Images.{loaded_of}
use Rattle.bmach.specs.Slices.{SliceGives}
use Rattle.bmach.specs.Stepping.{Paused, machine_at, paused}
use Rattle.bmach.specs.Steps.{calls_below}
use Rattle.bmach.specs.Turns.{AsksNot}
use Rattle.bmach.specs.declared.machine.Calls.{Calls}
use Rattle.bmach.proofs.stepper.Stepper.slice.Goals as goal

pub returns-clause-gives : goal.returns-clause-gives
returns-clause-gives g c =
    let image = c.self-2.inside.image.now in
    let functions : image.functions ≡ map loaded_of c.deref.result.now =
    sym (ap (λ i. i.functions) c.image.view_is) ∙ ap (map loaded_of) (sym c.deref.ensures.value) in
    let ran = c.run_steps-ran.result in
    let words = g.S.Store.words c.self-2.inside.store in
    let old = ap (λ (calls : Calls). paused image calls words) c.take_calls-calls.ensures ∙ c.self-2.view_is in
    subst (λ (p : Paused). SliceGives p (paused image ran.calls (g.S.Store.words c.run_steps-ran.new.store)) c.args.steps (g.I.ByteIn.incoming c.args.input.now) (g.I.ByteIn.incoming c.run_steps-ran.new.input) (g.O.ByteOut.outgoing c.args.out.now) (g.O.ByteOut.outgoing c.run_steps-ran.new.out) ran.stop ran.stop.outcome) old
    (c.run_steps-ran.ensures.slice c.requires image functions)

pub slice_one-requires : goal.slice_one-requires
slice_one-requires g c =
    subst (λ (p : Paused). AsksNot (machine_at p)) c.self.view_is
    (c.may_read.ensures (calls_below c.self.inside.calls) (g.S.Store.words c.self.inside.store) c.if-not-may_read.true)
