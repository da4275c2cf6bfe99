use Rattle.bcheck.proofs.SpareSteps.{Counts}
use Rattle.bcheck.proofs.spares.alike.Given as goal

abbrev pub invariant-loop-index : goal.invariant-loop-index
invariant-loop-index l = Counts l.fn.both.source.now l.fn.both.new.now l.fn.both.olds.now l.fn.both.news.now l.index
