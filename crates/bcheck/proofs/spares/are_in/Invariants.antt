use Rattle.bcheck.proofs.SpareSteps.{Found}
use Rattle.bcheck.proofs.spares.are_in.Given as goal

abbrev pub invariant-loop-index : goal.invariant-loop-index
invariant-loop-index l = Found l.fn.both.source.now l.fn.both.new.now l.fn.both.olds.now l.fn.both.news.now l.count l.index
