-- The boundaries of a line that are still to come, and a `;` at one.
use Rattle.std.proofs.Common.{◌≡◌, ◌∙◌, ℕ, ◌≤◌, ◌++◌, true, false, List, [], None, Some, ap, append_assoc, append-nil, arith, length, refl, subst, sym}
use Rattle.bword.specs.declared.edition.Edition.{Edition}
use Rattle.blex.specs.declared.scanner.PlacedPiece.{PlacedPiece}
use Rattle.bword.specs.ByteEnds.{Kept}
use Rattle.blang.specs.declared.token.Diagnostic.{Diagnostic}
use Rattle.bcheck.specs.Checks.{EachOutcome, Judged}
use Rattle.bcheck.specs.Findings.{IsStopOf}
use Rattle.bcheck.specs.Boundaries.{fault_boundaries, boundary_on, boundaries}
use Rattle.bcheck.specs.declared.verdict.Verdict.{Verdict}
use Rattle.bcheck.specs.declared.verdict.Verdict.TheVariants as verdict
use Rattle.bcheck.proofs.MendSteps.{StopIs, stop_is}
use Rattle.bcheck.specs.Tokens.{ends, pieces_of}
use Rattle.bcheck.proofs.TokenPlaces.{coming, coming_end, coming_more, end_within, next}

module _ (edition : Edition) (source : List ℕ) (line : ℕ) where
  -- the boundaries up to a place
  pub record HasBoundaries (places : List ℕ) (at : ℕ) : Type 0 where
    pub within : at ≤ length source
    pub all : places ++ boundaries line at (coming edition source at) ≡ boundaries line 0 (pieces_of edition source)

  pub boundaries_from : HasBoundaries [] 0
  boundaries_from = record { within = omega arith; all = refl }

  module _ (places : List ℕ) (at : ℕ) (found : PlacedPiece) (is : found ≡ next edition source at) (h : HasBoundaries places at) where
    pub boundaries_end : ends found.lexeme ≡ true → places ++ boundary_on line at found ≡ boundaries line 0 (pieces_of edition source)
    boundaries_end e =
        let end : ends (next edition source at).lexeme ≡ true = ap (λ (p : PlacedPiece). ends p.lexeme) (sym is) ∙ e in
        ap (λ p. places ++ boundary_on line at p) is
        ∙ ap (λ ps. places ++ ps) (sym (append-nil (boundary_on line at (next edition source at))))
        ∙ ap (λ ps. places ++ boundaries line at ps) (sym (coming_end edition source at end)) ∙ h.all

    pub boundaries_more : ends found.lexeme ≡ false → HasBoundaries (places ++ boundary_on line at found) found.end
    boundaries_more e =
        let other : ends (next edition source at).lexeme ≡ false = ap (λ (p : PlacedPiece). ends p.lexeme) (sym is) ∙ e in
        subst (λ (p : PlacedPiece). HasBoundaries (places ++ boundary_on line at p) p.end) (sym is)
        (record {
          within = end_within edition source at h.within;
          all =
              append_assoc places (boundary_on line at (next edition source at))
              (boundaries line (next edition source at).end (coming edition source (next edition source at).end))
              ∙ ap (λ ps. places ++ boundaries line at ps) (sym (coming_more edition source at h.within other)) ∙ h.all;
        })

-- a source without a fault has none
pub no_boundaries : (edition : Edition) (source : List ℕ) (v : Verdict) → Judged edition source v → IsStopOf edition source v → StopIs v None
    → EachOutcome edition source (λ o. fault_boundaries edition source o.stop ≡ [])
no_boundaries edition source verdict.Clean j s is = λ r g. ap (fault_boundaries edition source) (stop_is edition source r g verdict.Clean j s)
no_boundaries edition source (verdict.Unloaded f) j s is = λ r g. ap (fault_boundaries edition source) (stop_is edition source r g (verdict.Unloaded f) j s)
no_boundaries edition source (verdict.Faulty line d) j s is = let no : None ≡ Some d = is in cc

-- those of a fault are on its line
pub on_line : (edition : Edition) (source : List ℕ) (v : Verdict) (line : Kept) (d : Diagnostic) (places : List ℕ) → v ≡ verdict.Faulty line d → IsStopOf edition source v → places ≡ boundaries d.line 0 (pieces_of edition source)
    → EachOutcome edition source (λ o. places ≡ fault_boundaries edition source o.stop)
on_line edition source v line d places is stop here =
    λ r g. here ∙ sym (ap (fault_boundaries edition source) ((subst (λ x. IsStopOf edition source x) is stop) r g))
