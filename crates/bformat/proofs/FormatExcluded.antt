-- What never comes of a source that is to be laid out.
use Rattle.std.proofs.Common.{◌≡◌, ◌≢◌, ◌∙◌, ℕ, Bool, true, false, List, [], Some, arith, refl, subst, sym, ◌⊎◌, inl, inr}
use Rattle.std.proofs.lemmas.Bool.{both_ways}
use Rattle.bword.specs.declared.edition.Edition.{Edition}
use Rattle.bword.specs.declared.ends.EndFault.{EndFault}
use Rattle.bword.specs.declared.ends.EndFault.TheVariants as end_fault
use Rattle.bword.specs.ByteEnds.{Grew, Outgoing, Writes}
use Rattle.blang.specs.declared.token.Diagnostic.{Diagnostic}
use Rattle.blang.specs.Compiles.{Compilation, CompilesTo, line_of, status_of}
use Rattle.blang.specs.Cut.{tokens_from}
use Rattle.blang.specs.Reports.{Reported}
use Rattle.btools.specs.Programs as programs
use Rattle.btools.proofs.Compiled as compiling
use Rattle.btools.proofs.ProgramsExcluded as told
use Rattle.bformat.specs.FormatExcluded.{ChecksAsWritten, TellsNothing, Twice, WrongLayouts}
use Rattle.bformat.specs.Formats.{Format, Formats, FormatsBy, IsLayout, Shows, faulty, has_wrong_token, laid_out, no_memory}
use Rattle.bformat.proofs.Compiled.{compiled_is_fine}

-- the statuses of a source of which nothing is told
abbrev Quiet : ℕ → Type 0
Quiet s = (s ≡ 0) ⊎ (s ≡ 2) ⊎ (s ≡ 133) ⊎ (s ≡ 134)

not_one : (s : ℕ) → s ≡ 1 → Quiet s → ⊥
not_one s is (inl a) = omega (arith, is, a)
not_one s is (inr (inl b)) = omega (arith, is, b)
not_one s is (inr (inr (inl c))) = omega (arith, is, c)
not_one s is (inr (inr (inr d))) = omega (arith, is, d)

not_two : (s : ℕ) → s ≡ 2 → (s ≡ 0) ⊎ (s ≡ 1) ⊎ (s ≡ 133) ⊎ (s ≡ 134) → ⊥
not_two s is (inl a) = omega (arith, is, a)
not_two s is (inr (inl b)) = omega (arith, is, b)
not_two s is (inr (inr (inl c))) = omega (arith, is, c)
not_two s is (inr (inr (inr d))) = omega (arith, is, d)

reported : (text : List ℕ) (old new : Outgoing) (s : ℕ) → Reported text 0 old new s → Quiet s
reported text old new s (inl h) = inl h.1
reported text old new s (inr r) = by_kind r.fault r.status
  where
    by_kind : (kind : EndFault) → s ≡ status_of kind → Quiet s
    by_kind end_fault.Device e = inr (inr (inl e))
    by_kind end_fault.Memory e = inr (inr (inr e))

-- what is shown of a text: its status, that a check writes nothing, and what only one of both can answer
module _ (text source : List ℕ) (old new : Outgoing) (s : ℕ) where
  shown : (b : Bool) → Shows b text source old new s → Quiet s
  shown false h = reported text old new s h
  shown true (still, inl same) = inl same.1
  shown true (still, inr other) = inr (inl other.1)

  checked_still : (b : Bool) → Shows b text source old new s → b ≡ true → new ≡ old
  checked_still true h e = h.0
  checked_still false h e = cc

  was_written : (b : Bool) → Shows b text source old new s → b ≡ false → s ≡ 0 → Writes old text new
  was_written false h e is = told.was_told text s old new (λ d. omega (arith, is, d)) (λ d. omega (arith, is, d)) (subst (λ (t : ℕ). Reported text t old new s) (sym is) h)
  was_written true h e is = cc

  changed : (b : Bool) → Shows b text source old new s → s ≡ 2 → b ≡ true
  changed true h is = refl
  changed false h is = absurd (told.other_answer text 0 old new s (λ d. omega (arith, is, d)) (λ d. omega (arith, is, d)) (λ d. omega (arith, is, d)) h)

  failed : (b : Bool) → Shows b text source old new s → s ≡ 133 → Grew old.failures new.failures
  failed false h is = told.device_grew text 0 old new (λ d. omega (arith, d)) (subst (λ (t : ℕ). Reported text 0 old new t) is h)
  failed true (still, inl same) is = absurd (omega (arith, is, same.1))
  failed true (still, inr other) is = absurd (omega (arith, is, other.1))

module _ (f : Format) (r : Compilation) (g : CompilesTo [] (tokens_from f.edition 1 f.source) r) where
  abbrev Compiled : List ℕ → ℕ → Type 0
  Compiled code status = programs.WasCompiled f.edition f.source f.line f.line_after code status

  fine : has_wrong_token f.edition f.source ≡ false → Formats f → TellsNothing f
  fine is (laid_out text right layout shows line) = record { line = line; status = shown text f.source f.out f.out_after f.status f.is_check shows }
  fine is (faulty code wrong compiled out) = absurd (both_ways (has_wrong_token f.edition f.source) is wrong)
  fine is (no_memory out line status) = record { line = line; status = inr (inr (inr status)) }

  compiled_well : (code : List ℕ) → Compiled code f.status → f.status ≡ 0 → has_wrong_token f.edition f.source ≡ false
  compiled_well code compiled is =
      compiled_is_fine f.edition f.source r g (compiling.clean f.edition f.source r g f.line f.line_after code (subst (Compiled code) is compiled)).clean

  done : Formats f → f.status ≡ 0 → has_wrong_token f.edition f.source ≡ false
  done (laid_out text right layout shows line) is = right
  done (faulty code wrong compiled out) is = compiled_well code compiled is
  done (no_memory out line status) is = absurd (omega (arith, is, status))

  written : Formats f → f.status ≡ 0 → f.is_check ≡ false → (text : List ℕ) × IsLayout f.edition f.source text × Writes f.out text f.out_after
  written (laid_out text right layout shows line) is plain = (text, layout, was_written text f.source f.out f.out_after f.status f.is_check shows plain is)
  written (faulty code wrong compiled out) is plain = absurd (both_ways (has_wrong_token f.edition f.source) (compiled_well code compiled is) wrong)
  written (no_memory out line status) is plain = absurd (omega (arith, is, status))

  checked : Formats f → f.is_check ≡ true → f.out_after ≡ f.out
  checked (laid_out text right layout shows line) is = checked_still text f.source f.out f.out_after f.status f.is_check shows is
  checked (faulty code wrong compiled out) is = out
  checked (no_memory out line status) is = out

  changes : Formats f → f.status ≡ 2 → f.is_check ≡ true
  changes (laid_out text right layout shows line) is = changed text f.source f.out f.out_after f.status f.is_check shows is
  changes (faulty code wrong compiled out) is = absurd (not_two f.status is compiled.compiles.no_other)
  changes (no_memory out line status) is = absurd (omega (arith, is, status))

  fault : Formats f → f.status ≡ 1 → (has_wrong_token f.edition f.source ≡ true) × ((d : Diagnostic) × (r.stop ≡ Some d) × Writes f.line (line_of d) f.line_after) × (f.out_after ≡ f.out)
  fault (laid_out text right layout shows line) is = absurd (not_one f.status is (shown text f.source f.out f.out_after f.status f.is_check shows))
  fault (faulty code wrong compiled out) is = (
    wrong,
    compiling.faulty f.edition f.source r g f.line f.line_after code (subst (Compiled code) is compiled),
    out,
  )
  fault (no_memory out line status) is = absurd (omega (arith, is, status))

  device : Formats f → f.status ≡ 133 → Grew f.out.failures f.out_after.failures ⊎ Grew f.line.failures f.line_after.failures
  device (laid_out text right layout shows line) is = inl (failed text f.source f.out f.out_after f.status f.is_check shows is)
  device (faulty code wrong compiled out) is =
      inr (compiling.device f.edition f.source r g f.line f.line_after code (subst (Compiled code) is compiled))
  device (no_memory out line status) is = absurd (omega (arith, is, status))

pub wrong_layouts : WrongLayouts
wrong_layouts f r g h = record {
  compiled = λ stop. fine f r g (compiled_is_fine f.edition f.source r g stop) h;
  fine = λ is. fine f r g is h;
  done = done f r g h;
  written = written f r g h;
  checked = checked f r g h;
  changes = changes f r g h;
  fault = fault f r g h;
  device = device f r g h;
}

-- Two calls in a style that has one layout for each source.
module _ (layout : Edition → List ℕ → List ℕ) (check write : Format) (twice : Twice check write) where
  abbrev Lays : Edition → List ℕ → List ℕ → Type 0
  Lays edition source text = text ≡ layout edition source

  -- a text that was written, and that lays the source out
  abbrev Written : Type 0
  Written = (text : List ℕ) × Lays write.edition write.source text × Writes write.out text write.out_after

  wrote : FormatsBy Lays write → Written
  wrote (laid_out text right made shows line) =
      (text, made, was_written text write.source write.out write.out_after write.status write.is_check shows twice.writes twice.written)
  wrote (faulty code wrong compiled out) = absurd (both_ways (has_wrong_token write.edition write.source) twice.fine wrong)
  wrote (no_memory out line status) = absurd (omega (arith, twice.written, status))

  -- what a check saw
  abbrev Seen : Type 0
  Seen = (text : List ℕ) × Lays write.edition write.source text
      × ((check.status ≡ 0 → text ≡ write.source) × (check.status ≡ 2 → text ≢ write.source))

  compared : (text source : List ℕ) (old new : Outgoing) (s : ℕ) (b : Bool) → Shows b text source old new s → b ≡ true
      → (s ≡ 0 → text ≡ source) × (s ≡ 2 → text ≢ source)
  compared text source old new s true (still, inl same) is = (λ e. same.0, λ e. absurd (omega (arith, e, same.1)))
  compared text source old new s true (still, inr other) is = (λ e. absurd (omega (arith, e, other.1)), λ e. other.0)
  compared text source old new s false h is = cc

  wrong_of_check : has_wrong_token check.edition check.source ≡ false
  wrong_of_check = rw twice.edition (rw twice.source twice.fine)

  saw : FormatsBy Lays check → check.status ≢ 1 → check.status ≢ 134 → Seen
  saw (laid_out text right made shows line) a b = (
    text,
    rw twice.edition at (rw twice.source at made),
    rw twice.source at (compared text check.source check.out check.out_after check.status check.is_check shows twice.looks),
  )
  saw (faulty code wrong compiled out) a b = absurd (both_ways (has_wrong_token check.edition check.source) wrong_of_check wrong)
  saw (no_memory out line status) a b = absurd (b status)

  as_written : FormatsBy Lays check → FormatsBy Lays write
      → (check.status ≡ 0 → Writes write.out write.source write.out_after)
      × (check.status ≡ 2 → (text : List ℕ) × (text ≢ write.source) × Writes write.out text write.out_after)
  as_written c w = (
    λ e.
        let s = saw c (λ is. omega (arith, e, is)) (λ is. omega (arith, e, is)) in
        let t = wrote w in
        subst (λ (text : List ℕ). Writes write.out text write.out_after) (t.1 ∙ sym s.1 ∙ s.2.0 e) t.2,
    λ e.
        let s = saw c (λ is. omega (arith, e, is)) (λ is. omega (arith, e, is)) in
        let t = wrote w in
        (t.0, (λ is. s.2.1 e (s.1 ∙ sym t.1 ∙ is)), t.2),
  )

pub checks_as_written : ChecksAsWritten
checks_as_written = as_written
