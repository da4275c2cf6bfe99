use Rattle.std.proofs.Common.{◌≡◌, ◌==◌, false, arith, refl}
use Rattle.std.proofs.lemmas.Grind.{common_steps}
use Rattle.std.proofs.lemmas.Bool.Decides.{nat_tests}
use Rattle.blex.proofs.FixedTexts.{fixed_of-three}
use Rattle.blex.proofs.operators.fixed_of_three.Goals as goal

pub returns-then-first-ne61 : goal.returns-then-first-ne61
returns-then-first-ne61 c =
    λ characters. let other : (c.args.first == 61) ≡ false = grind (arith, nat_tests) in
    rw (c.in_ok-second.was, c.in_ok-third.was, fixed_of-three c.args.first c.in_ok-second.second c.in_ok-third.third, other) refl

pub returns : goal.returns
returns c =
    λ characters. rw (c.in_ok-second.was, c.in_ok-third.was, fixed_of-three c.args.first c.in_ok-second.second c.in_ok-third.third) (grind (arith, common_steps))
