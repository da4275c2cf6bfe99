use Rattle.blang.specs.Cut.{fixed_of}
use Rattle.blex.proofs.FixedTexts.{assignment_of-one}
use Rattle.blex.proofs.operators.fixed_of_one.Goals as goal

pub returns-in-None : goal.returns-in-None
unfolding fixed_of
returns-in-None c = λ characters. rw (← c.in-None.ensures, assignment_of-one c.args.byte) (c.other_of_one.ensures characters)
