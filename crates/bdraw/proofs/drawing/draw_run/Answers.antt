use Rattle.std.proofs.Common.{◌≡◌, ℕ, List, refl, subst}
use Rattle.blang.specs.declared.status.TheConstants.{DONE}
use Rattle.blang.specs.Machine.{image_of, machine}
use Rattle.blang.specs.Reports.{Reported}
use Rattle.bwatch.proofs.Seen.{told_so}
use Rattle.bdraw.specs.Draws.{IsDrawn, after, no_memory, not_begun, unread}
use Rattle.bdraw.specs.Stacks.{drawn_in}
use Rattle.bdraw.proofs.WatchedPictures.{drawn_so}
use Rattle.bdraw.proofs.drawing.draw_run.Goals as goal

pub watch-requires-clause-begins : goal.watch-requires-clause-begins
watch-requires-clause-begins g c = λ sights. (refl, refl)

pub returns-in-Ok-Unbegun-clause-draws : goal.returns-in-Ok-Unbegun-clause-draws
returns-in-Ok-Unbegun-clause-draws g c =
    let w = rw c.in-Ok-Unbegun.field-0-is at c.in-Ok-Unbegun.ensures.gives in not_begun _ w.0 c.show_before.ensures.shows w.1

pub returns-in-Err-clause-draws : goal.returns-in-Err-clause-draws
returns-in-Err-clause-draws g c = no_memory c.in-Err.ensures.read refl refl

pub returns-in-Device-clause-draws : goal.returns-in-Device-clause-draws
returns-in-Device-clause-draws g c =
    let w = rw c.in-Ok-Ended.field-0-is at c.in-Ok-Ended.ensures.gives in unread w.output (rw c.in-Device.is at w.gives) refl refl

pub returns-clause-draws : goal.returns-clause-draws
returns-clause-draws g c =
    let w = rw c.in-Ok-Ended.field-0-is at c.in-Ok-Ended.ensures.gives in
    let q = drawn_in c.args.program.now c.args.tables.now in
    let stop = c.in-Ok-Ended.stop in
    let text = c.watch.new.onlooker.picture in
    let told = subst (λ (t : List ℕ). Reported t DONE (g.O.ByteOut.outgoing c.args.out.now) (g.O.ByteOut.outgoing c.tell.new.out) c.tell.result) c.as_slice.ensures c.tell.ensures.told in
    after stop.outcome stop.steps text
    (told_so (image_of q.definitions).functions (machine q.definitions) c.args.steps _ _ stop.outcome stop.steps _ (IsDrawn q text)
    (drawn_so q text (λ s m. (c.watch.new.onlooker.program ≡ c.args.program) × (c.watch.new.onlooker.tables ≡ c.args.tables)) stop.outcome c.in_default.not-Device stop.steps) w) told
