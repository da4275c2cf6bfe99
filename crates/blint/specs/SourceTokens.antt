-- Promise: the tokens of a source, each where it stands.
use Rattle.std.specs.Prelude.{◌≡◌, ℕ, zero, suc, ◌-◌, Bool, true, false, List, [], ◌∷◌, ◌++◌, length, map, Option, None}
use Rattle.std.specs.Prelude.{Some}
use Rattle.std.specs.Prelude.{if◌then◌else◌}
use Rattle.std.specs.List.{cons_option}
use Rattle.bword.specs.declared.edition.Edition.{Edition}
use Rattle.blang.specs.Cut.{tokens_from}
use Rattle.blang.specs.Trees.{Definition, bare}
use Rattle.blang.specs.Walk.{spell_all}
use Rattle.blang.specs.declared.token.Placed.{Placed}
use Rattle.blang.specs.declared.token.Token.TheVariants as token
use Rattle.blex.specs.declared.lexeme.Lexeme.{Lexeme}
use Rattle.blex.specs.declared.lexeme.Lexeme.TheVariants as lexeme
use Rattle.blex.specs.declared.scanner.PlacedPiece.{PlacedPiece}
use Rattle.blex.specs.Places.{next_piece}
use Rattle.bmatch.specs.declared.tree.TokenPlace.{TokenPlace}

abbrev pub is_end : Option Lexeme → Bool
is_end (Some lexeme.End) = true
is_end l = false

abbrev pub place_of : PlacedPiece → TokenPlace
place_of p = record { line = p.line; start = p.first; len = p.end - p.first }

abbrev pub PlacedToken : Type 0
PlacedToken = Lexeme × TokenPlace

abbrev token_with : Option Lexeme → TokenPlace → Option PlacedToken
token_with (Some (lexeme.Bad letters)) place = None
token_with (Some l) place = Some (l, place)
token_with None place = None

-- a piece as a token; a comment is none, and neither is what is wrong
abbrev pub token_of : PlacedPiece → Option PlacedToken
token_of p = token_with p.lexeme (place_of p)

-- those from a place on, after at most so many pieces
unfoldable pub tokens_at : Edition → (fuel : ℕ) → List ℕ → (at : ℕ) → List PlacedToken
tokens_at edition zero source at = []
tokens_at edition (suc fuel) source at =
    let p = next_piece edition source at in
    if is_end p.lexeme then [] else cons_option (token_of p) (tokens_at edition fuel source p.end)

abbrev pub tokens_of : Edition → List ℕ → List PlacedToken
tokens_of edition source = tokens_at edition (length source) source 0

abbrev pub lexemes_in : List PlacedToken → List Lexeme
lexemes_in ts = map (λ t. t.0) ts

abbrev pub token_places : List PlacedToken → List TokenPlace
token_places ts = map (λ t. t.1) ts

-- The source is these definitions, and no more.
pub record IsSource (edition : Edition) (source : List ℕ) (definitions : List Definition) : Type 0 where
  pub before : List Placed
  pub end : Placed
  pub none : List Placed
  pub split : tokens_from edition 1 source ≡ before ++ end ∷ none
  pub ends : end.token ≡ token.End
  pub spelled : map bare (spell_all definitions) ≡ map bare before
