-- What the compiler and the loader answer over memory is what a source comes to.
use Rattle.std.proofs.Common.{◌≡◌, ◌≢◌, ◌<◌, ℕ, List, [], ◌++◌, map, refl, sym, ap, ◌∙◌, subst}
use Rattle.std.specs.Prelude.{None}
use Rattle.bword.specs.declared.edition.Edition.{Edition}
use Rattle.bword.specs.ByteEnds.{Outgoing, Kept}
use Rattle.blang.specs.declared.code.Definition.{Definition}
use Rattle.blang.specs.Code.{code_of}
use Rattle.blang.specs.Compiles.{line_of}
use Rattle.bgrammar.proofs.GoesLaws.{each_source_comes}
use Rattle.blang.specs.Layout.{load_fault}
use Rattle.blang.specs.declared.status.TheConstants.{FAULT}
use Rattle.blang.specs.declared.token.Diagnostic.{Diagnostic}
use Rattle.bsources.specs.Files.{Files}
use Rattle.btools.specs.Programs.{HasFault, IsCodeOf}
use Rattle.bcheck.specs.Findings.{IsStopOf}
use Rattle.bcheck.specs.Checks.{AreFindings, Judged, EachOutcome, Outcome, fault_in, outcome_of, TellsFirst, told, shown_in_form, verdict_line, status_told, told_first}
use Rattle.bcheck.proofs.FaultLines.{on_a_line}
use Rattle.blang.specs.Reports.{Reported}
use Rattle.bcheck.specs.declared.form.FindingForm.{FindingForm}
use Rattle.bcheck.specs.declared.verdict.Verdict.{Verdict}
use Rattle.bcheck.specs.declared.verdict.Verdict.TheVariants as verdict

-- a text that is told is one that begins with the first
pub tells_both : (form : FindingForm) (o : Outcome) (files : Files) (first more text : List ℕ) (status : ℕ) (old new : Outgoing) (result : ℕ) → text ≡ first ++ more
    → Reported text status old new result → AreFindings form o status files more → TellsFirst form o files first status old new result
tells_both form o files first more text status old new result is t are = told more are (subst (λ x. Reported x status old new result) is t)

-- what is told of the code of a source is told of the source
pub clean_judged : (edition : Edition) (source : List ℕ) (ds : List Definition) (v : Verdict) → IsCodeOf edition source ds → (verdict_line v, status_told v) ≡ told_first None (load_fault ds) → Judged edition source v
clean_judged edition source ds v is told_of =
    λ r g. let c = is r g in
    told_of ∙ ap (λ x. told_first None (load_fault x)) (sym c.1) ∙ ap (λ s. told_first s (load_fault (map code_of g.definitions))) (sym c.0)

-- and so is the line of its fault
pub faulty_judged : (edition : Edition) (source : List ℕ) (line : Kept) (d : Diagnostic) → HasFault edition source d → line.bytes ≡ line_of d → Judged edition source (verdict.Faulty line d)
faulty_judged edition source line d is line_is =
    λ r g. ap (λ text. (text, FAULT)) line_is ∙ ap (λ s. told_first s (load_fault (map code_of g.definitions))) (sym (is r g))

-- the fault of a source stands on a line from 1 on
pub fault_line : (edition : Edition) (source : List ℕ) (line : Kept) (v : Verdict) (d : Diagnostic) → v ≡ verdict.Faulty line d → IsStopOf edition source v → 0 < d.line
fault_line edition source line v d is stop =
    let some = each_source_comes [] edition 1 source in
    on_a_line edition source some.0 d some.1 ((subst (IsStopOf edition source) is stop) some.0 some.1)

pub no_stop : (edition : Edition) (source : List ℕ) (v : Verdict) → status_told v ≢ FAULT → IsStopOf edition source v
no_stop edition source verdict.Clean h = tt
no_stop edition source (verdict.Faulty line d) h = absurd (h refl)
no_stop edition source (verdict.Unloaded f) h = tt

pub checked : (form : FindingForm) (files : Files) (v : Verdict) (edition : Edition) (source first more : List ℕ) (status : ℕ) (old new : Outgoing) (result : ℕ)
    → Judged edition source v → first ≡ shown_in_form form (verdict_line v) → status ≡ status_told v
    → EachOutcome edition source (λ o. AreFindings form o (status_told v) files more)
    → ((o : Outcome) → AreFindings form o status files more → TellsFirst form o files first status old new result)
    → EachOutcome edition source (λ o. TellsFirst form o files (shown_in_form form (told_first o.stop (fault_in o)).0) (told_first o.stop (fault_in o)).1 old new result)
checked form files v edition source first more status old new result j f s are t =
    λ r g.
    let o = outcome_of edition source r.stop (map code_of g.definitions) in
    let here : TellsFirst form o files first status old new result = t o (subst (λ n. AreFindings form o n files more) (sym s) (are r g)) in
    subst (λ (p : List ℕ × ℕ). TellsFirst form o files (shown_in_form form p.0) p.1 old new result) (j r g)
    (subst (λ n. TellsFirst form o files (shown_in_form form (verdict_line v)) n old new result) s (subst (λ x. TellsFirst form o files x status old new result) f here))
