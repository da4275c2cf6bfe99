-- Promise: the comments and tokens of a source, each as it stands there.
use Rattle.std.specs.Prelude.{ℕ, zero, suc, Bool, true, false, List, [], ◌∷◌, length, slice_range, Option, Some, if◌then◌else◌}
use Rattle.bword.specs.declared.edition.Edition.{Edition}
use Rattle.blex.specs.declared.lexeme.Lexeme.{Lexeme}
use Rattle.blex.specs.declared.lexeme.Lexeme.TheVariants as lexeme
use Rattle.blex.specs.Places.{next_piece}

abbrev pub is_end : Option Lexeme → Bool
is_end (Some lexeme.End) = true
is_end _ = false

-- those from a place on, of which there are at most as many as the fuel
unfoldable pub pieces_from : Edition → (fuel : ℕ) → List ℕ → (at : ℕ) → List (List ℕ)
pieces_from edition zero source at = []
pieces_from edition (suc fuel) source at =
    let p = next_piece edition source at in
    if is_end p.lexeme then [] else
    slice_range source p.first p.end ∷ pieces_from edition fuel source p.end

-- all of them
abbrev pub pieces_of : Edition → List ℕ → List (List ℕ)
pieces_of edition source = pieces_from edition (length source) source 0
