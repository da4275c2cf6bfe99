use Rattle.std.proofs.Common.{◌≡◌, ◌+◌, ◌*◌, ℕ}
use Rattle.bmach.specs.Stepping.{Paused}
use Rattle.bsession.specs.Sessions.{Goes, IsGoing, SliceMade, allowed}
use Rattle.bsession.specs.declared.session.Held.TheVariants as held
use Rattle.bsession.specs.declared.session.SliceEnd.TheVariants as end
use Rattle.bsession.specs.declared.session.TheConstants.{PART_STEPS}
use Rattle.bsession.proofs.Parts.{KeptUpTo}
use Rattle.bsession.proofs.session.Session.go_on.Given as goal

-- the steps that are no longer left were made
abbrev pub invariant-loop-outcome : goal.invariant-loop-outcome
invariant-loop-outcome l =
    record {
      left : l.self.steps + l.left ≡ l.fn.self.steps + allowed l.fn.self l.steps;
      goes : IsGoing l.self.state;
      made : (p : Paused) → l.fn.self.state ≡ Goes p → SliceMade p l.fn.self l.self l.steps (end.Holds held.Output);
      parts : (parts : ℕ) × (l.self.steps ≡ l.fn.self.steps + parts * PART_STEPS);
      kept : (p : Paused) → l.fn.self.state ≡ Goes p → KeptUpTo p l.fn.self l.self.steps;
    }

abbrev pub decreases-loop-outcome : goal.decreases-loop-outcome
decreases-loop-outcome l = l.left
