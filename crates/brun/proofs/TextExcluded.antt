-- Answers that the contract of `run_text` excludes, whatever is proved of the body that gives them.
use Rattle.std.proofs.Common.{◌≡◌, ◌∙◌, ℕ, ◌<◌, List, [], ap, arith, refl, subst, sym, ◌⊎◌, inl, inr, ⊎_elim}
use Rattle.std.specs.Prelude.{None, Some}
use Rattle.bword.specs.ByteEnds.{Outgoing}
use Rattle.bword.specs.declared.ends.EndFault.{EndFault}
use Rattle.bword.specs.declared.ends.EndFault.TheVariants as end_fault
use Rattle.blang.specs.Compiles.{status_of}
use Rattle.blang.specs.Layout.{load_fault}
use Rattle.blang.specs.Machine.{machine}
use Rattle.blang.specs.Reports.{Finishes, HasNotRun, NotLoaded, Reported, RunEnds, RunGives, load_number, report_text}
use Rattle.blang.specs.Text.{IsCodeText}
use Rattle.blang.specs.declared.code.Definition.{Definition}
use Rattle.blang.specs.declared.run.LoadFault.TheVariants as fault
use Rattle.blang.specs.declared.run.Outcome.{Outcome}
use Rattle.blang.specs.declared.run.Outcome.TheVariants as outcome
use Rattle.blang.specs.declared.run.Report.TheVariants as report
use Rattle.bcode.specs.Faults.{IsFaultLine}
use Rattle.bcode.proofs.CodeExcluded.{same_line}
use Rattle.bcode.proofs.FaultLaws.{unique_code}
use Rattle.bmach.proofs.Running.{device_failed}
use Rattle.brun.specs.Runs as texts
use Rattle.brun.specs.Runs.{RunsDefinitions, RunsText}
use Rattle.brun.proofs.RunExcluded.{AnyFailed, told_device}

-- a status that is told for want of memory before the run
abbrev NoRoom : RunEnds → ℕ → Type 0
NoRoom ends status = HasNotRun ends × (ends.line_after ≡ ends.line) × (status ≡ 134)

-- A code text has its own definitions run, and no others.
pub text_run_alone : (steps : ℕ) (text : List ℕ) (ds : List Definition) (ends : RunEnds) (status : ℕ) → IsCodeText text ds → RunsText steps text ends status → RunsDefinitions steps ds ends status ⊎ NoRoom ends status
text_run_alone steps text ds ends status is (texts.unread n line none quiet told) = absurd (none ds is)
text_run_alone steps text ds ends status is (texts.read es code runs) =
    inl (subst (λ x. RunsDefinitions steps x ends status) (unique_code text es ds code is) runs)
text_run_alone steps text ds ends status is (texts.no_room header quiet silent e) = inr (quiet, silent, e)

-- A text that is no code text isn't run, and the line is that of its first wrong line.
pub no_text_told : (steps : ℕ) (text : List ℕ) (n : ℕ) (ends : RunEnds) (status : ℕ) → IsFaultLine text n → ((ds : List Definition) → IsCodeText text ds → ⊥) → RunsText steps text ends status
    → (HasNotRun ends × Reported (report_text (report.Code n)) 132 ends.line ends.line_after status) ⊎ NoRoom ends status
no_text_told steps text n ends status line none (texts.unread m other without quiet told) =
    inl (quiet, subst (λ k. Reported (report_text (report.Code k)) 132 ends.line ends.line_after status) (same_line text m n other line) told)
no_text_told steps text n ends status line none (texts.read ds code runs) = absurd (none ds code)
no_text_told steps text n ends status line none (texts.no_room header quiet silent e) = inr (quiet, silent, e)

-- The limit of steps isn't told as a trap.
other_end : (fault : EndFault) (status : ℕ) → status ≡ status_of fault → 132 < status
other_end end_fault.Device status e = omega (arith, e)
other_end end_fault.Memory status e = omega (arith, e)

pub no_limit_as_a_trap : (line following : Outgoing) (status : ℕ) → Finishes outcome.Limit line following status → status ≡ 130 → ⊥
no_limit_as_a_trap line following status (inl told) is = let bad : 131 ≡ 130 = sym told.1 ∙ is in omega (arith, bad)
no_limit_as_a_trap line following status (inr r) is = let high = other_end r.fault status r.status in omega (arith, high, is)

-- 133 wants a stream that failed.
finished : (steps : ℕ) (ds : List Definition) (ends : RunEnds) (status : ℕ) (result : Outcome) → RunGives (machine ds) steps ends.input ends.input_after ends.out ends.out_after result → ((n : ℕ) → result ≡ outcome.Exit n → n < 128)
    → Finishes result ends.line ends.line_after status → status ≡ 133 → AnyFailed ends
finished steps ds ends status (outcome.Exit n) h own f is = let small = own n refl in let same : n ≡ 133 = sym f.1 ∙ is in absurd (omega (arith, small, same))
finished steps ds ends status (outcome.Trap kind) h own f is = inr (inr (told_device (report_text (report.Trap kind)) 130 ends.line ends.line_after status (omega arith) f is))
finished steps ds ends status outcome.Limit h own f is = inr (inr (told_device (report_text report.Limit) 131 ends.line ends.line_after status (omega arith) f is))
finished steps ds ends status outcome.Device h own f is = ⊎_elim inl (λ o. inr (inl o)) (device_failed (machine ds) steps ends.input ends.input_after ends.out ends.out_after h)
finished steps ds ends status outcome.Memory h own f is = let bad : 134 ≡ 133 = sym f.1 ∙ is in absurd (omega (arith, bad))

pub text_only_failed : (steps : ℕ) (text : List ℕ) (ends : RunEnds) (status : ℕ) → RunsText steps text ends status → status ≡ 133 → AnyFailed ends
text_only_failed steps text ends status (texts.unread n line none quiet told) is = inr (inr (told_device (report_text (report.Code n)) 132 ends.line ends.line_after status (omega arith) told is))
text_only_failed steps text ends status (texts.read ds code (texts.refused f n load number quiet told)) is = inr (inr (told_device (report_text (report.Load n)) 132 ends.line ends.line_after status (omega arith) told is))
text_only_failed steps text ends status (texts.read ds code (texts.ran result loads h own f)) is = finished steps ds ends status result h own f is
text_only_failed steps text ends status (texts.read ds code (texts.no_memory some quiet silent e)) is = let bad : 134 ≡ 133 = sym e ∙ is in absurd (omega (arith, bad))
text_only_failed steps text ends status (texts.no_room header quiet silent e) is = let bad : 134 ≡ 133 = sym e ∙ is in absurd (omega (arith, bad))

-- A text without definitions is told as `load 4`, and isn't run.
no_main : load_fault [] ≡ Some fault.NoMain
no_main = refl

pub empty_text_told : (steps : ℕ) (ends : RunEnds) (status : ℕ) → RunsDefinitions steps [] ends status → HasNotRun ends × NotLoaded 4 ends.line ends.line_after status
empty_text_told steps ends status (texts.refused f n load number quiet told) =
    let is : f ≡ fault.NoMain = some_same f fault.NoMain (sym load ∙ no_main) in
    let four : n ≡ 4 = some_same n 4 (sym number ∙ ap load_number is) in
    (quiet, subst (λ k. NotLoaded k ends.line ends.line_after status) four told)
  where
    some_same : {A : Type 0} (a b : A) → Some a ≡ Some b → a ≡ b
    some_same a b e = cc
empty_text_told steps ends status (texts.ran result loads h own f) = let bad : Some fault.NoMain ≡ None = sym no_main ∙ loads in cc
empty_text_told steps ends status (texts.no_memory some quiet silent e) = absurd (some refl)
