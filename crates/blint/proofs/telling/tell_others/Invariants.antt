use Rattle.blint.specs.Told.{TellsOthers}
use Rattle.blint.proofs.telling.tell_others.Given as goal

abbrev pub invariant-loop-index : goal.invariant-loop-index
invariant-loop-index l = TellsOthers l.start l.fn.cautions.items l.cautions.items
