use Rattle.blex.proofs.FixedSteps.{alone_piece}
use Rattle.blex.proofs.operators.operator.Goals as goal

pub returns-in-Some-clause-ok : goal.returns-in-Some-clause-ok
returns-in-Some-clause-ok g c = λ characters. alone_piece _ _ c.requires (c.in-Some.ensures.0 characters) c.in-Some.ensures.1
