use Rattle.std.proofs.Common.{◌-◌, refl}
use Rattle.std.specs.List.{range_with_len}
use Rattle.std.proofs.lemmas.Result.{on_ok_weaker}
use Rattle.btools.proofs.AddedTexts.{piece}
use Rattle.btrace.specs.RowTexts.{stored_text, written_row}
use Rattle.bwatch.specs.declared.trail.Trail.{Trail}
use Rattle.btrace.proofs.Traced.{hidden_traced, shown_traced}
use Rattle.btrace.proofs.tracer.TracerOnlooker.after.Goals as goal

pub returns-then-not-self : goal.returns-then-not-self
returns-then-not-self g c first sights at has = hidden_traced first c.args.self.now sights c.args._made c.if-not-self.true has

pub returns : goal.returns
returns g c =
    let t = c.args.self.now in
    let store = c.args.stepper.now.store in
    let words = stored_text store (range_with_len t.stored.start (t.stored.end - t.stored.start)) in
    let trail : Trail = record { text = t.trail.text; last = t.trail.last; row = c.push_written.new.text } in
    on_ok_weaker c.keep.result (λ keeps first sights at has.
    shown_traced first t (record t { trail = c.keep.new.self }) trail c.args.stepper.now sights c.args._made c.args.written.now refl refl refl refl
    (λ within. piece t.trail.row c.push_stored.new.text c.push_written.new.text words (written_row c.args.written.now) (c.in_ok-push_stored.ensures within) c.in_ok-push_written.ensures)
    keeps c.if-not-self.false at has) c.keep.ensures
