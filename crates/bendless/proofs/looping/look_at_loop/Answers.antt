use Rattle.std.proofs.Common.{◌∙◌, ℕ, List, ap, refl}
use Rattle.blang.specs.Machine.{image_of, machine}
use Rattle.btools.specs.Functions.{entries_of}
use Rattle.bendless.specs.Replays.{lender_replay, replay_new}
use Rattle.bendless.specs.declared.looping.LoopWatcher.{LoopWatcher}
use Rattle.bendless.proofs.LoopSteps.{looked}
use Rattle.bendless.proofs.looping.look_at_loop.Goals as goal

pub returns-in-Ended : goal.returns-in-Ended
returns-in-Ended c =
    let ds = c.args.program.now.definitions.items in
    let read = c.args.read.now in
    let first : LoopWatcher = record { tables = c.args.tables; repeat = c.args.repeat; notes = c.in_ok-ok.field-0 } in
    let w = rw c.in-Ended.is at c.in-Ok.ensures.gives in
    let begun = c.new-input.ensures ∙ ap (λ (b : List ℕ). replay_new b read.is_over) c.as_slice.ensures.value in
    looked (entries_of c.args.tables.now) (image_of ds).functions (machine ds) read.bytes.items read.is_over c.two_rounds-steps.result c.new-input.result c.watch.new.input first c.watch.new.onlooker c.args.repeat c.in-Ended.stop c.into_notes.result
    c.two_rounds-steps.ensures begun c.left.ensures.stands (c.watch.ensures.same ∙ ap lender_replay begun) refl refl c.into_notes.ensures w
