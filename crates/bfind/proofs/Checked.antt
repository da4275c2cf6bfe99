-- What is told of a source, by what was found in it.
use Rattle.std.proofs.Common.{◌≡◌, ◌⊎◌, arith, ℕ, List, [], ◌∷◌, true, false, inl, inr, length, refl}
use Rattle.std.specs.Prelude.{◌==◌}
use Rattle.std.proofs.lemmas.Bool.Decides.{nat_tests}
use Rattle.std.proofs.lemmas.List.{nil_from_length}
use Rattle.bword.specs.ByteEnds.{Outgoing}
use Rattle.bword.specs.declared.edition.Edition.{Edition}
use Rattle.blang.specs.Reports.{Reported}
use Rattle.blang.specs.declared.status.TheConstants.{FAULT, MEMORY}
use Rattle.blang.specs.declared.token.Diagnostic.{Diagnostic}
use Rattle.bsources.specs.Files.{Files}
use Rattle.btools.specs.Programs.{HasFault}
use Rattle.bcheck.specs.declared.form.FindingForm.{FindingForm}
use Rattle.bfind.specs.declared.own.OwnRules.{OwnRules}
use Rattle.bfind.specs.Finds.{Finds, fault_line, faulty, no_memory}

pub nothing : (xs : List ℕ) → (length xs == 0) ≡ true → xs ≡ []
nothing xs e = nil_from_length xs (grind (arith, nat_tests, e))

pub something : (xs : List ℕ) → (length xs == 0) ≡ false → xs ≡ [] → ⊥
something [] e f = cc
something (x ∷ xs) e f = cc

pub fault_told : (edition : Edition) (form : FindingForm) (files : Files) (source : List ℕ) (own : OwnRules) (out line line_after : Outgoing) (status : ℕ) (d : Diagnostic)
    → HasFault edition source d → Reported (fault_line files.first.name d.line) FAULT line line_after status ⊎ ((line_after ≡ line) × (status ≡ MEMORY))
    → Finds edition form files source own out out line line_after status
fault_told edition form files source own out line line_after status d has (inl told) = faulty d has told refl
fault_told edition form files source own out line line_after status d has (inr none) = no_memory refl none.0 none.1
