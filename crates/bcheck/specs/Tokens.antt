-- Promise: the tokens of a source, each where it stands.
use Rattle.std.specs.Prelude.{ℕ, zero, suc, ◌==◌, ◌&&◌, Bool, true, false, nat_le, nat_lt, List, [], ◌∷◌, ◌++◌, length}
use Rattle.std.specs.Prelude.{Option, Some, if◌then◌else◌}
use Rattle.std.specs.List.{list_any}
use Rattle.bword.specs.declared.edition.Edition.{Edition}
use Rattle.blex.specs.declared.lexeme.Lexeme.{Lexeme}
use Rattle.blex.specs.declared.lexeme.Lexeme.TheVariants as lexeme
use Rattle.blex.specs.declared.scanner.PlacedPiece.{PlacedPiece}
use Rattle.blex.specs.Places.{next_piece}

-- no token comes after this one
abbrev pub ends : Option Lexeme → Bool
ends (Some (lexeme.Bad letters)) = true
ends (Some lexeme.End) = true
ends _ = false

-- a token with bytes
abbrev pub is_token : Option Lexeme → Bool
is_token (Some lexeme.End) = false
is_token (Some l) = true
is_token _ = false

-- the comments and tokens from a place on, of which there are at most as many as the fuel
unfoldable pub pieces_from : Edition → (fuel : ℕ) → List ℕ → (at : ℕ) → List PlacedPiece
pieces_from edition zero source at = []
pieces_from edition (suc fuel) source at =
    let p = next_piece edition source at in
    p ∷ (if ends p.lexeme then [] else pieces_from edition fuel source p.end)

-- all of them, the last token among them
abbrev pub pieces_of : Edition → List ℕ → List PlacedPiece
pieces_of edition source = pieces_from edition (suc (length source)) source 0

-- a token that begins on this line; and one that a place is in, too
abbrev pub is_on : (line : ℕ) → PlacedPiece → Bool
is_on line p = is_token p.lexeme && (p.line == line)

abbrev pub is_around : (line place : ℕ) → PlacedPiece → Bool
is_around line place p = is_on line p && (nat_le p.first place && nat_lt place p.end)

abbrev pub has_token_on : Edition → (line : ℕ) → List ℕ → Bool
has_token_on edition line source = list_any (is_on line) (pieces_of edition source)

-- a token of the line is around the place between these bytes
abbrev pub is_in_token : Edition → (line : ℕ) → (before rest : List ℕ) → Bool
is_in_token edition line before rest = list_any (is_around line (length before)) (pieces_of edition (before ++ rest))
