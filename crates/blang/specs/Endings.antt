-- Promise: the token that bytes end with.
use Rattle.std.specs.Prelude.{◌≡◌, ℕ, List, ◌++◌, Some}
use Rattle.bword.specs.declared.edition.Edition.{Edition}
use Rattle.blang.specs.Cut.{Word, whole}
use Rattle.blang.specs.declared.token.Token.{Token}

-- The bytes end with those of this token.
pub record EndsWith (edition : Edition) (token : Token) (bytes : List ℕ) : Type 0 where
  pub before : List ℕ
  pub text : List ℕ
  pub split : bytes ≡ before ++ text
  pub is : whole edition text ≡ Some (Word token)
