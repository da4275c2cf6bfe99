use Rattle.bgrammar.proofs.GoesLaws.{each_source_comes, outcomes_are_equal}
use Rattle.bgrammar.proofs.one_outcome.Goals as goal

pub returns-clause-comes : goal.returns-clause-comes
returns-clause-comes c = each_source_comes

pub returns-clause-once : goal.returns-clause-once
returns-clause-once c = outcomes_are_equal
