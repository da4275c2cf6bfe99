-- A source that is tried: with a fault, nothing of its input is read; without one, it is checked and run.
use Rattle.std.proofs.Common.{◌≡◌, ◌∙◌, ◌⊎◌, ◌<◌, ℕ, Bool, true, false, List, [], ◌++◌, Option, Some, None, arith, map, refl}
use Rattle.std.proofs.Common.{subst, sym, inl, inr}
use Rattle.std.proofs.lemmas.Bool.{ne_eqb}
use Rattle.std.specs.Prelude.{◌==◌}
use Rattle.bword.specs.ByteEnds.{Outgoing, Writes}
use Rattle.bword.specs.declared.edition.Edition.{Edition}
use Rattle.bword.specs.declared.ends.EndFault.{EndFault}
use Rattle.bword.specs.declared.ends.EndFault.TheVariants as end_fault
use Rattle.blang.specs.Code.{code_of}
use Rattle.blang.specs.Compiles.{status_of}
use Rattle.blang.specs.Layout.{load_fault}
use Rattle.blang.specs.Machine.{Image}
use Rattle.blang.specs.declared.code.Definition.{Definition}
use Rattle.blang.specs.Reports.{Reported, RunEnds}
use Rattle.blang.specs.declared.run.LoadFault.{LoadFault}
use Rattle.blang.specs.declared.token.Diagnostic.{Diagnostic}
use Rattle.bgrammar.proofs.GoesLaws.{each_source_comes}
use Rattle.bsources.specs.Files.{Files}
use Rattle.btools.specs.Programs.{HasFault, HasProgram}
use Rattle.bcheck.specs.Checks.{Check, Checks, Outcome, TellsFirst, TellsOutcome, told, no_memory, told_first}
use Rattle.bcheck.specs.declared.form.FindingForm.{FindingForm}
use Rattle.bcheck.specs.declared.form.FindingForm.TheVariants as forms
use Rattle.bcli.specs.Tries.{IsTriedWhole, RunsWhere, Tries, next_text}

first_of_fault : (stop : Option Diagnostic) (f : Option LoadFault) (d : Diagnostic) → stop ≡ Some d
    → (told_first stop f).1 ≡ 1
first_of_fault (Some e) f d is = refl
first_of_fault None f d is = cc

refused_fails : (fault : EndFault) → (status_of fault == 0) ≡ false
refused_fails end_fault.Device = refl
refused_fails end_fault.Memory = refl

reported_fails : (text : List ℕ) (old new : Outgoing) (status : ℕ) → Reported text 1 old new status
    → (status == 0) ≡ false
reported_fails text old new status (inl written) = rw written.1 refl
reported_fails text old new status (inr stopped) = rw stopped.status (refused_fails stopped.fault)

told_fails : (form : FindingForm) (o : Outcome) (files : Files) (first : List ℕ) (status : ℕ) (old new : Outgoing)
    (result : ℕ) → status ≡ 1 → TellsFirst form o files first status old new result → (result == 0) ≡ false
told_fails form o files first status old new result is (told more are reported) =
    reported_fails (first ++ more) old new result (subst (λ s. Reported (first ++ more) s old new result) is reported)
told_fails form o files first status old new result is (no_memory same at) = rw at refl

outcome_fails : (c : Check) (o : Outcome) (first : List ℕ × ℕ) → first.1 ≡ 1 → TellsOutcome c o first
    → (c.status == 0) ≡ false
outcome_fails c o (line, status) is tells = told_fails _ o c.files _ status c.out c.out_after c.status is tells

unread_where : (is_done : Bool) (checked : ℕ) (edition : Edition) (files : Files) (text : List ℕ) (steps : ℕ)
    (ends : RunEnds) (status : ℕ) → is_done ≡ false → RunsWhere is_done checked edition files text steps ends status
    → ends.input_after ≡ ends.input
unread_where true checked edition files text steps ends status is runs = cc
unread_where false checked edition files text steps ends status is runs = runs.0.unread

pub tried_unread : (edition : Edition) (files : Files) (text : List ℕ) (steps : ℕ) (ends : RunEnds) (status : ℕ)
    (d : Diagnostic) → HasFault edition text d → Tries edition files text steps ends status
    → ends.input_after ≡ ends.input
tried_unread edition files text steps ends status d faulty it =
    let some = each_source_comes [] edition 1 text in
    let checked : Check = record {
      edition = edition;
      form = forms.Text;
      files = files;
      source = text;
      out = ends.out;
      out_after = it.out;
      status = it.checked;
    } in
    unread_where (it.checked == 0) it.checked edition files text steps (record ends { out = it.out; line_after = it.line })
    it.ran (outcome_fails checked _ _ (first_of_fault some.0.stop _ d (faulty some.0 some.1)) (it.checks some.0 some.1))
    it.runs

-- A source that compiles and loads: it is checked, and then run.
first_of_none : (stop : Option Diagnostic) (f : Option LoadFault) → stop ≡ None → f ≡ None → (told_first stop f).1 ≡ 0
first_of_none None None is none = refl
first_of_none None (Some f) is none = cc
first_of_none (Some d) f is none = cc

refused_late : (fault : EndFault) → 132 < status_of fault
refused_late end_fault.Device = omega arith
refused_late end_fault.Memory = omega arith

told_done : (form : FindingForm) (o : Outcome) (files : Files) (first : List ℕ) (status : ℕ) (old new : Outgoing)
    (result : ℕ) → status ≡ 0 → TellsFirst form o files first status old new result → (result ≡ 0) ⊎ (132 < result)
told_done form o files first status old new result is (told more are (inl written)) = inl (written.1 ∙ is)
told_done form o files first status old new result is (told more are (inr stopped)) =
    let late = refused_late stopped.fault in
    let at = stopped.status in
    inr (omega (arith, late, at))
told_done form o files first status old new result is (no_memory same at) = inr (omega (arith, at))

outcome_done : (c : Check) (o : Outcome) (first : List ℕ × ℕ) → first.1 ≡ 0 → TellsOutcome c o first
    → (c.status ≡ 0) ⊎ (132 < c.status)
outcome_done c o (line, status) is tells = told_done _ o c.files _ status c.out c.out_after c.status is tells

-- what was told below the statuses of failures
below : (text : List ℕ) (answer : ℕ) (old new : Outgoing) (status : ℕ) → status < 132
    → Reported text answer old new status → Writes old text new × (status ≡ answer)
below text answer old new status less (inl written) = written
below text answer old new status less (inr stopped) =
    let late = refused_late stopped.fault in
    let at = stopped.status in
    absurd (omega (arith, less, late, at))

module _ (edition : Edition) (files : Files) (text : List ℕ) (steps : ℕ) (ends : RunEnds) (status : ℕ) (less : status < 132) where
  abbrev checked_so : (out : Outgoing) (checked : ℕ) → Check
  checked_so out checked = record {
    edition = edition;
    form = forms.Text;
    files = files;
    source = text;
    out = ends.out;
    out_after = out;
    status = checked;
  }

  abbrev ended : (out line : Outgoing) → RunEnds
  ended out line = record ends { out = out; line_after = line }

  whole : (checked ran : ℕ) (out line : Outgoing) → Checks (checked_so out checked)
      → RunsWhere (checked == 0) checked edition files text steps (ended out line) ran
      → Reported (next_text steps checked ran) ran line ends.line_after status → (checked ≡ 0) ⊎ (132 < checked)
      → IsTriedWhole edition files text steps ends status
  whole checked ran out line checks runs next (inl is) =
      let ran_so : RunsWhere true 0 edition files text steps (ended out line) ran =
      subst (λ n. RunsWhere (n == 0) n edition files text steps (ended out line) ran) is runs in
      let told = below (next_text steps 0 ran) ran line ends.line_after status less
      (subst (λ n. Reported (next_text steps n ran) ran line ends.line_after status) is next) in
      record {
        out = out;
        line = line;
        checks = subst (λ n. Checks (checked_so out n)) is checks;
        runs = subst (λ n. RunsWhere true 0 edition files text steps (ended out line) n) (sym told.1) ran_so;
        next = subst (λ n. Writes line (next_text steps 0 n) ends.line_after) (sym told.1) told.0;
      }
  whole checked ran out line checks runs next (inr late) =
      let unrun : RunsWhere false checked edition files text steps (ended out line) ran =
      subst (λ b. RunsWhere b checked edition files text steps (ended out line) ran) (ne_eqb checked 0 (λ e. omega (arith, late, e))) runs in
      let at = unrun.2 in
      let told = below (next_text steps checked ran) ran line ends.line_after status less next in
      let same = told.1 in
      absurd (omega (arith, less, late, at, same))

pub tried_whole : (edition : Edition) (files : Files) (text : List ℕ) (steps : ℕ) (ends : RunEnds) (status : ℕ)
    (ds : List Definition) (image : Image) → HasProgram edition text ds image → status < 132
    → Tries edition files text steps ends status → IsTriedWhole edition files text steps ends status
tried_whole edition files text steps ends status ds image has less it =
    let some = each_source_comes [] edition 1 text in
    let code = has.code some.0 some.1 in
    let loads : load_fault (map code_of some.1.definitions) ≡ None =
    subst (λ (x : List Definition). load_fault x ≡ None) (sym code.1) has.loads in
    whole edition files text steps ends status less it.checked it.ran it.out it.line it.checks it.runs it.next
    (outcome_done (checked_so edition files text steps ends status less it.out it.checked) _ _
    (first_of_none some.0.stop _ code.0 loads) (it.checks some.0 some.1))
