use Rattle.std.proofs.Common.{[]}
use Rattle.blex.proofs.FixedSteps.{three_piece, two_piece, one_piece}
use Rattle.blex.proofs.operators.longest_of_three.Goals as goal

pub returns-in-Some-clause-ok : goal.returns-in-Some-clause-ok
returns-in-Some-clause-ok g c = λ characters.
    three_piece _ _ _ _ c.requires c.in_ok-second.ensures.ok c.skip.ensures.passes c.skip.ensures.ahead c.skip-in-Some.ensures.passes (c.in-Some.ensures characters)

pub returns-in-Some-fixed_of_two-clause-ok : goal.returns-in-Some-fixed_of_two-clause-ok
returns-in-Some-fixed_of_two-clause-ok g c = λ characters.
    two_piece _ _ _ _ c.requires c.in_ok-second.ensures.ok c.skip-in-Some-fixed_of_two.ensures.passes (c.in_default.ensures []) (c.in-Some-fixed_of_two.ensures characters)

pub returns-clause-ok : goal.returns-clause-ok
returns-clause-ok g c = λ characters.
    one_piece _ _ _ _ c.requires c.in_ok-second.ensures.ok (c.in_default.ensures []) (c.in_default-fixed_of_two.ensures []) (c.one_or_stray.ensures characters)
