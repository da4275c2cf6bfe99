-- Promise: where the comments and tokens of a source stand.
use Rattle.std.specs.Prelude.{◌≡◌, ℕ, ◌+◌, List, Option, Some, None, drop, take, slice_range}
use Rattle.std.specs.List.{prefix_len}
use Rattle.bword.specs.declared.edition.Edition.{Edition}
use Rattle.blang.specs.Cut.{Piece, Word, is_blank, line_number_after, longest, piece_first, tokens_from, whole}
use Rattle.blex.specs.declared.lexeme.Lexeme.{Lexeme}
use Rattle.blex.specs.declared.scanner.PlacedPiece.{PlacedPiece}
use Rattle.blex.specs.Lexemes.{lexeme_of}
use Rattle.blex.specs.Lexing.{IsLongest}
use Rattle.blex.specs.Sources.{Source, GoesAfter, CanCome}

-- the lexeme of a token, and none of space
abbrev pub piece_lexeme : Option Piece → Option Lexeme
piece_lexeme (Some (Word t)) = Some (lexeme_of t)
piece_lexeme _ = None

-- the place of the first byte from a place on that is no blank
abbrev pub after_blanks : List ℕ → ℕ → ℕ
after_blanks source at = at + prefix_len is_blank (drop at source)

-- the place after the longest piece that begins at a place
abbrev pub piece_end : Edition → List ℕ → ℕ → ℕ
piece_end edition source first = first + longest edition (drop first source)

-- what the piece is that begins at a place
abbrev pub piece_from : Edition → List ℕ → ℕ → Option Piece
piece_from edition source first = whole edition (slice_range source first (piece_end edition source first))

-- the line of a place
abbrev pub line_at : List ℕ → ℕ → ℕ
line_at source place = line_number_after 1 (take place source)

-- the comment or token that begins at a place
abbrev pub placed_piece : Edition → List ℕ → ℕ → PlacedPiece
placed_piece edition source first = record {
  lexeme = piece_lexeme (piece_from edition source first);
  line = line_at source first;
  first = first;
  end = piece_end edition source first;
}

-- the next comment or token after a place
abbrev pub next_piece : Edition → List ℕ → ℕ → PlacedPiece
next_piece edition source at = placed_piece edition source (after_blanks source at)

-- A source has passed the piece that it began with.
pub record PassesFirst (old : Source) (lexeme : Option Lexeme) (new : Source) : Type 0 where
  pub text : List ℕ
  pub passes : GoesAfter old text new
  pub piece : Piece
  pub is : whole old.edition text ≡ Some piece
  pub lexeme_is : lexeme ≡ piece_lexeme (Some piece)
  pub stops : (xs : List ℕ) → CanCome new xs → IsLongest old.edition text xs

-- what can be seen of a scanner: a source in an edition, and the place up to which it was read
pub record Scanner : Type 0 where
  pub edition : Edition
  pub source : List ℕ
  pub at : ℕ

-- the next comment or token was found
pub record Finds (old : Scanner) (found : PlacedPiece) (new : Scanner) : Type 0 where
  pub found_is : found ≡ next_piece old.edition old.source old.at
  pub edition : new.edition ≡ old.edition
  pub source : new.source ≡ old.source
  pub at : new.at ≡ found.end

-- The tokens from a place on are the next one, or that after a comment, and those after its end.
abbrev pub PlacesOfTokens : Type 0
PlacesOfTokens = (edition : Edition) (source : List ℕ) (at : ℕ) →
    let first = after_blanks source at in
    let end = piece_end edition source first in
    tokens_from edition (line_at source at) (drop at source)
    ≡ piece_first (piece_from edition source first) (line_at source first)
    (tokens_from edition (line_at source end) (drop end source))
