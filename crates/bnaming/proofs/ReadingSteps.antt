-- The pieces of a source that are still to come.
use Rattle.std.proofs.Common.{◌≡◌, ◌≢◌, ◌∙◌, ℕ, zero, suc, ◌+◌, ◌<◌, ◌≤◌, Bool, true, false, List, [], ◌∷◌, ◌++◌, Option, Some, ap, append_assoc, append-nil, arith, length, refl, sym}
use Rattle.bword.specs.declared.edition.Edition.{Edition}
use Rattle.blex.specs.declared.lexeme.Lexeme.{Lexeme}
use Rattle.blex.specs.declared.lexeme.Lexeme.TheVariants as lexeme
use Rattle.blex.specs.Places.{Finds, Scanner, after_blanks, next_piece}
use Rattle.blex.specs.declared.scanner.PlacedPiece.{PlacedPiece}
use Rattle.blex.proofs.PlaceSteps.{end_piece, piece_grows}
use Rattle.bnaming.specs.Pieces.{is_end, pieces_from, pieces_of, placed}
use Rattle.bnaming.specs.declared.reading.Piece.{Piece}

module _ (edition : Edition) (source : List ℕ) where
  abbrev pub found_at : ℕ → PlacedPiece
  found_at at = next_piece edition source at

  other_than_end : (l : Option Lexeme) → is_end l ≡ false → l ≢ Some lexeme.End
  other_than_end l e same = let f : true ≡ false = ap is_end (sym same) ∙ e in cc

  pub grows : (at : ℕ) → is_end (found_at at).lexeme ≡ false → at < (found_at at).end
  grows at e = omega (arith, piece_grows edition source (after_blanks source at) (other_than_end (found_at at).lexeme e))

  step_end : (fuel at : ℕ) → is_end (found_at at).lexeme ≡ true → pieces_from edition (suc fuel) source at ≡ []
  unfolding pieces_from
  step_end fuel at e = rw e refl

  pub step_more : (fuel at : ℕ) → is_end (found_at at).lexeme ≡ false → pieces_from edition (suc fuel) source at ≡ placed source (found_at at) ∷ pieces_from edition fuel source (found_at at).end
  unfolding pieces_from
  step_more fuel at e = rw e refl

  none_left : (fuel at : ℕ) → length source ≤ at → pieces_from edition fuel source at ≡ []
  unfolding pieces_from
  none_left zero at h = refl
  none_left (suc fuel) at h = rw (end_piece edition source at h) refl

  -- enough fuel is enough
  fueled : (m n at : ℕ) → length source ≤ at + m → length source ≤ at + n → pieces_from edition m source at ≡ pieces_from edition n source at
  fueled zero n at h k = none_left zero at (omega arith) ∙ sym (none_left n at (omega arith))
  fueled (suc m) zero at h k = none_left (suc m) at (omega arith) ∙ sym (none_left zero at (omega arith))
  fueled (suc m) (suc n) at h k = by (is_end (found_at at).lexeme) refl (λ g. fueled m n (found_at at).end (omega (arith, g)) (omega (arith, g)))
    where
      by : (b : Bool) → is_end (found_at at).lexeme ≡ b → (at < (found_at at).end → pieces_from edition m source (found_at at).end ≡ pieces_from edition n source (found_at at).end)
          → pieces_from edition (suc m) source at ≡ pieces_from edition (suc n) source at
      by true e again = step_end m at e ∙ sym (step_end n at e)
      by false e again = step_more m at e ∙ ap (λ ps. placed source (found_at at) ∷ ps) (again (grows at e)) ∙ sym (step_more n at e)

  abbrev coming : ℕ → List Piece
  coming at = pieces_from edition (length source) source at

  -- A source was read up to a place.
  pub record Reads (pieces : List Piece) (at : ℕ) : Type 0 where
    pub all : pieces ++ coming at ≡ pieces_of edition source

  pub reads_from : Reads [] 0
  reads_from = record { all = refl }

  module _ (pieces : List Piece) (at : ℕ) (found : PlacedPiece) (is : found ≡ next_piece edition source at) (h : Reads pieces at) where
    again : coming at ≡ pieces_from edition (suc (length source)) source at
    again = fueled (length source) (suc (length source)) at (omega arith) (omega arith)

    pub reads_end : is_end found.lexeme ≡ true → pieces ≡ pieces_of edition source
    reads_end e =
        let end : is_end (found_at at).lexeme ≡ true = ap (λ (p : PlacedPiece). is_end p.lexeme) (sym is) ∙ e in
        sym (append-nil pieces) ∙ ap (λ ps. pieces ++ ps) (sym (again ∙ step_end (length source) at end)) ∙ h.all

    pub reads_more : (piece : Piece) → piece ≡ placed source found → is_end found.lexeme ≡ false → Reads (pieces ++ piece ∷ []) found.end
    reads_more piece p e =
        let more : is_end (found_at at).lexeme ≡ false = ap (λ (q : PlacedPiece). is_end q.lexeme) (sym is) ∙ e in
        record {
          all = append_assoc pieces (piece ∷ []) (coming found.end)
              ∙ ap (λ q. pieces ++ (q ∷ coming found.end)) p
              ∙ ap (λ (q : PlacedPiece). pieces ++ (placed source q ∷ coming q.end)) is
              ∙ ap (λ ps. pieces ++ ps) (sym (again ∙ step_more (length source) at more)) ∙ h.all;
        }

pub found_in : (old new : Scanner) (found : PlacedPiece) (edition : Edition) (source : List ℕ) → Finds old found new → old.edition ≡ edition → old.source ≡ source → found ≡ next_piece edition source old.at
found_in old new found edition source f e s = f.found_is ∙ ap (λ ed. next_piece ed old.source old.at) e ∙ ap (λ text. next_piece edition text old.at) s
