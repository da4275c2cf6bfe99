-- Closed facts: texts that are none of some definitions: without any, and without the last line.
use Rattle.std.specs.Prelude.{◌≡◌, [], ◌∷◌, codes, length}
use Rattle.std.specs.Fmt.{digits}
use Rattle.std.proofs.Common.{ap, arith, refl, ◌∙◌}
use Rattle.bword.specs.declared.edition.Edition.TheVariants as editions
use Rattle.blang.specs.declared.code.Definition.{Definition}
use Rattle.blang.specs.declared.code.Definition.TheVariants as definition
use Rattle.blang.specs.Text.{IsTextOf, joined, code_lines}

abbrev a : Definition
a = definition.Simple record { name = codes "a"; values = []; strings = [] }

whole : joined (code_lines editions.One (a ∷ [])) ≡ codes "X a 0 0\nE\n"
unfolding digits
whole = refl

-- the definitions of a text are all of them
pub not_of_nothing : IsTextOf editions.One (codes "X a 0 0\nE\n") [] → ⊥
not_of_nothing text = let same : 10 ≡ 2 = ap length text.spelled in omega (arith, same)

-- what is written of `a;a;` has no last line
pub not_without_end : IsTextOf editions.One (codes "X a 0 0\n") (a ∷ []) → ⊥
not_without_end text = let same : 8 ≡ 10 = ap length (text.spelled ∙ whole) in omega (arith, same)
