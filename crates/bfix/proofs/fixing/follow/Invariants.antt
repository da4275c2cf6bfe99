use Rattle.bfix.proofs.FixSteps.{Follows}
use Rattle.bfix.proofs.fixing.follow.Given as goal

abbrev pub invariant-loop-count : goal.invariant-loop-count
invariant-loop-count l = Follows l.fn.frame l.fn.own l.text l.lines l.count
