use Rattle.std.proofs.Common.{◌≡◌, ◌≤◌}
use Rattle.bendless.specs.Replays.{lender_replay, replay_new}
use Rattle.bendless.proofs.Searching.{Came, HasKept}
use Rattle.bendless.proofs.search.search.Given as goal

-- so many steps were made, and a state of the run is kept
abbrev pub invariant-loop-made : goal.invariant-loop-made
invariant-loop-made g l =
    record {
      came : Came l.fn.stepper l.fn.bytes l.made l.stepper l.input.left l.input.is_over;
      kept : HasKept l.fn.stepper l.fn.bytes l.kept l.made l.stepper l.input.left l.input.is_over;
      which : lender_replay l.input ≡ lender_replay (replay_new l.fn.bytes l.fn.has_end);
      few : l.count ≤ 5000;
    }
