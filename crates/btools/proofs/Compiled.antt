-- A source that was compiled.
use Rattle.std.proofs.Common.{◌≡◌, ◌∙◌, ℕ, false, List, [], ◌∷◌, ◌++◌, Some, None, append-nil, refl, sym, subst, inl, inr}
use Rattle.bword.specs.declared.edition.Edition.{Edition}
use Rattle.bword.specs.ByteEnds.{CanFollow, Grew, Kept, Outgoing, Took, Unread, Writes, incoming_of, outgoing_of}
use Rattle.blang.specs.declared.token.Diagnostic.{Diagnostic}
use Rattle.blang.specs.Compiles.{Compilation, Compiles, CompilesTo, Whatever, code_text, line_of}
use Rattle.blang.specs.Cut.{tokens_from}
use Rattle.blang.specs.Text.{IsCodeText}
use Rattle.bgrammar.proofs.ReadingBack.{reads_back}
use Rattle.btools.specs.Programs.{WasCompiled}
use Rattle.btools.specs.ProgramsExcluded.{code_in}
use Rattle.bmach.proofs.MachineExcluded.{not_grown}

no_more : (taken rest : List ℕ) → taken ++ rest ≡ taken → rest ≡ []
no_more [] rest h = h
no_more (x ∷ xs) rest h = no_more xs rest cc

-- what is left of a source can follow what was taken
pub follows : (source : List ℕ) (following : Unread) (taken : List ℕ) → Took (incoming_of (record { left = source; is_over = false })) taken (incoming_of following) → CanFollow (incoming_of following) following.left
follows source following taken t over = no_more taken following.left (sym t.bytes ∙ (t.all refl over ∙ append-nil taken))

-- what compiling between these ends does
abbrev Compiling : (edition : Edition) (source following : Unread) (first last : Kept) (line line_after : Outgoing) → ℕ → Type 0
Compiling edition source following first last line line_after status =
    Compiles (record { edition = edition; source = incoming_of source; source_after = incoming_of following; code = outgoing_of first; code_after = outgoing_of last; line = line; line_after = line_after; status = status })

-- the code text of a source without a fault is that of its definitions
pub text_in : (edition : Edition) (source : List ℕ) (r : Compilation) (g : CompilesTo [] (tokens_from edition 1 source) r) → r.stop ≡ None → IsCodeText (code_text edition r) (code_in edition source r g)
text_in edition source r g clean = (edition, reads_back edition 1 source r g clean)

module _ (edition : Edition) (source : List ℕ) (r : Compilation) (g : CompilesTo [] (tokens_from edition 1 source) r) (line line_after : Outgoing) where
  -- what holds of each source that begins so holds of this one
  whole : (code : List ℕ) (status : ℕ) (w : WasCompiled edition source line line_after code status) (P : Compilation → Type 0) → Whatever edition w.compiles.taken (incoming_of w.following) P → P r
  whole code status w P all =
      all w.following.left (follows source w.following w.compiles.taken w.compiles.took) r
      (subst (λ t. CompilesTo [] (tokens_from edition 1 t) r) w.compiles.took.bytes g)

  -- a source that was compiled
  pub record Clean (code : List ℕ) : Type 0 where
    pub clean : r.stop ≡ None
    pub text : IsCodeText code (code_in edition source r g)

  pub clean : (code : List ℕ) → WasCompiled edition source line line_after code 0 → Clean code
  clean code w =
      let is = whole code 0 w _ (w.compiles.compiled refl) in
      let text : code ≡ code_text edition r = sym w.code_is ∙ is.code.appended in
      record {
        clean = is.clean;
        text = subst (λ t. IsCodeText t (code_in edition source r g)) (sym text) (text_in edition source r g is.clean);
      }

  pub faulty : (code : List ℕ) → WasCompiled edition source line line_after code 1 → (d : Diagnostic) × (r.stop ≡ Some d) × Writes line (line_of d) line_after
  faulty code w = let h = whole code 1 w _ (w.compiles.faulty refl) in (h.fault, h.stop, h.line)

  -- a failed device is that of the line
  pub device : (code : List ℕ) → WasCompiled edition source line line_after code 133 → Grew line.failures line_after.failures
  device code w =
      let none_of_code : (a : ℕ) → a ≡ 0 → Grew a 0 → ⊥ = λ a e h. not_grown a 0 e refl h in
      elim (w.compiles.failed refl) [ inl s ↦ absurd (not_grown 0 0 refl refl s.counted) | inr (inl o) ↦ absurd (none_of_code 0 refl o.code.counted.0) | inr (inr (inl c)) ↦ absurd (let h = whole code 133 w _ c.code in none_of_code h.before.failures h.written.failures h.refused.counted.0) | inr (inr (inr l)) ↦ (let h = whole code 133 w _ l.written in h.line.counted.0) ]

-- a source in memory was compiled
pub compiled : (edition : Edition) (source : List ℕ) (line : Outgoing) (input following : Unread) (first last : Kept) (line_after : Outgoing) (status : ℕ) → input ≡ record { left = source; is_over = false } → first ≡ record { bytes = []; refusals = 0 }
    → Compiling edition input following first last line line_after status → WasCompiled edition source line line_after last.bytes status
compiled edition source line input following first last line_after status is none h = record {
  following = following;
  kept = last;
  code_is = refl;
  compiles = subst (λ (m : Kept). Compiling edition (record { left = source; is_over = false }) following m last line line_after status) none
      (subst (λ (i : Unread). Compiling edition i following first last line line_after status) is h);
}
