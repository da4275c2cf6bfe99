use Rattle.std.proofs.Common.{length, ◌-◌}
use Rattle.blex.proofs.NameRuns.{GoesOnTo}
use Rattle.blex.proofs.source.name_end.Given as goal

abbrev pub invariant-loop-at : goal.invariant-loop-at
invariant-loop-at l = GoesOnTo l.bytes l.initial.number l.at l.number

abbrev pub decreases-loop-at : goal.decreases-loop-at
decreases-loop-at l = length l.bytes - l.at
