-- Inner words: what was read of a source.
use Rattle.std.specs.Prelude.{◌≡◌, ℕ, Bool, false, true, List, map, Option, Some}
use Rattle.bword.specs.declared.edition.Edition.{Edition}
use Rattle.blex.specs.declared.lexeme.Lexeme.{Lexeme}
use Rattle.blex.specs.declared.lexeme.Lexeme.TheVariants as lexeme
use Rattle.bformat.specs.declared.reading.SourceItem.{SourceItem}
use Rattle.bformat.specs.Formats.{has_wrong_token}
use Rattle.bformat.specs.Pieces.{pieces_of}

abbrev pub is_bad : Option Lexeme → Bool
is_bad (Some (lexeme.Bad letters)) = true
is_bad _ = false

-- the texts of pieces
abbrev pub texts : List SourceItem → List (List ℕ)
texts pieces = map (λ p. p.text.now) pieces

-- All pieces of a source were read, and none of them is a wrong token.
pub record AreRead (edition : Edition) (source : List ℕ) (pieces : List SourceItem) : Type 0 where
  pub all : texts pieces ≡ pieces_of edition source
  pub fine : has_wrong_token edition source ≡ false
