-- Promise: the comments and strings of a source, and whether those of another one have them all.
use Rattle.std.specs.Prelude.{◌≡◌, ◌≤◌, ℕ, zero, suc, Bool, drop, true, false, List, [], ◌∷◌, ◌++◌, length, slice_range}
use Rattle.std.specs.Prelude.{Option, Some, None, if◌then◌else◌}
use Rattle.std.specs.Str.{bytes_eq}
use Rattle.bword.specs.declared.edition.Edition.{Edition}
use Rattle.blex.specs.declared.lexeme.Lexeme.{Lexeme}
use Rattle.blex.specs.declared.lexeme.Lexeme.TheVariants as lexeme
use Rattle.blex.specs.declared.scanner.PlacedPiece.{PlacedPiece}
use Rattle.blex.specs.Places.{next_piece}

-- the source is over
abbrev pub is_over : Option Lexeme → Bool
is_over (Some lexeme.End) = true
is_over _ = false

-- a comment or a string
abbrev pub is_kept : Option Lexeme → Bool
is_kept None = true
is_kept (Some lexeme.String) = true
is_kept _ = false

-- the text of a piece, if it is one
abbrev pub kept_text : List ℕ → PlacedPiece → List (List ℕ)
kept_text source p = if is_kept p.lexeme then slice_range source p.first p.end ∷ [] else []

-- those from a place on, among as many comments and tokens as the fuel; a wrong token ends nothing
unfoldable pub kept_from : Edition → (fuel : ℕ) → List ℕ → (at : ℕ) → List (List ℕ)
kept_from edition zero source at = []
kept_from edition (suc fuel) source at =
    let p = next_piece edition source at in
    if is_over p.lexeme then [] else kept_text source p ++ kept_from edition fuel source p.end

-- all of them, each as it stands there
abbrev pub kept_of : Edition → List ℕ → List (List ℕ)
kept_of edition source = kept_from edition (length source) source 0

-- the texts are among others, in their order
abbrev pub are_among : (texts others : List (List ℕ)) → Bool
are_among [] others = true
are_among (t ∷ ts) [] = false
are_among (t ∷ ts) (o ∷ os) = if bytes_eq t o then are_among ts os else are_among (t ∷ ts) os

-- Inner words: of the texts so many were found, and then so many, by another one.
abbrev pub Passes : (texts : List (List ℕ)) → (count : ℕ) → (other : List ℕ) → (after : ℕ) → Type 0
Passes texts count other after =
    (after ≤ length texts)
    × ((rest : List (List ℕ)) → are_among (drop count texts) (other ∷ rest) ≡ are_among (drop after texts) rest)
