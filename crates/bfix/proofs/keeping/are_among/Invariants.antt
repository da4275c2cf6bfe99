use Rattle.bfix.proofs.FixSteps.{Found}
use Rattle.bfix.proofs.keeping.are_among.Given as goal

abbrev pub invariant-loop-other : goal.invariant-loop-other
invariant-loop-other l = Found l.texts l.others l.count l.other-index
