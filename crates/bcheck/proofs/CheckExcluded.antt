-- What the contract of a check excludes.
use Rattle.std.proofs.Common.{◌≡◌, ◌≢◌, ◌∙◌, ◌<◌, ◌≤◌, ◌+◌, ℕ, suc, List, [], ◌∷◌, ◌++◌, ◌-◌, false, IsTrue, Option, Some, None, ap, arith, length, map, refl, subst, sym, take, inl, inr, ⊎_elim, true, ◌⊎◌}
use Rattle.std.specs.Io.{StartsWith}
use Rattle.std.specs.List.{Any}
use Rattle.std.proofs.lemmas.List.{append_cancel_left, append_cancel_right}
use Rattle.std.proofs.lemmas.Slice.Eq.{bytes_eq-Decides}
use Rattle.std.specs.Prelude.{not}
use Rattle.bword.specs.Words.{same_name}
use Rattle.bword.specs.ByteEnds.{Grew, Outgoing, Refuses}
use Rattle.bword.specs.declared.edition.Edition.{Edition}
use Rattle.bword.specs.declared.edition.Edition.TheVariants as editions
use Rattle.bword.specs.declared.ends.EndFault.{EndFault}
use Rattle.bword.specs.declared.ends.EndFault.TheVariants as end_fault
use Rattle.blang.specs.Code.{code_of}
use Rattle.blang.specs.Compiles.{CompilesTo, fault_text, line_of, status_of}
use Rattle.blang.specs.Cut.{tokens_from}
use Rattle.blang.specs.declared.run.LoadFault.{LoadFault}
use Rattle.blang.specs.declared.run.LoadFault.TheVariants as fault
use Rattle.blang.specs.Layout.{load_fault}
use Rattle.blang.specs.declared.status.TheConstants.{DEVICE, DONE, FAULT}
use Rattle.blang.specs.declared.token.Diagnostic.{Diagnostic}
use Rattle.bgrammar.specs.SourceRows.{ComesIn}
use Rattle.bgrammar.proofs.SourceRows.{a_break_of_one, a_break_outside}
use Rattle.bmach.proofs.Losing.{appended}
use Rattle.bcheck.specs.Checks as checks
use Rattle.bsources.specs.Files.{Files}
use Rattle.blang.specs.Trees.{Definition as Tree}
use Rattle.blang.specs.WellFormed.{AllFormed}
use Rattle.blint.specs.SourceTokens.{IsSource}
use Rattle.blint.specs.Warns.{IsDueIn}
use Rattle.bmatch.specs.declared.tree.TokenPlace.{TokenPlace}
use Rattle.blint.specs.declared.warnings.Warning.{Warning}
use Rattle.bcheck.specs.Checks.{finding_at, finding_column, finding_head, finding_words, EditParts, mended, AreFindings, Check, Checks, FindingParts, Outcome, TellsFirst, finding_text, outcome_of, findings_text, severity_of, shown_in_form, told_first, told_at}
use Rattle.bcheck.specs.CheckExcluded.{ComesTo, Excluded, IsTold, Never}
use Rattle.bcheck.proofs.RightSteps.{done_definitions, no_stop}
use Rattle.bcheck.specs.declared.finding.Severity.{Severity}
use Rattle.bcheck.specs.declared.form.FindingForm.{FindingForm}
use Rattle.bcheck.specs.declared.form.FindingForm.TheVariants as form

-- a check of a source that comes to this tells it
abbrev comes_to : (c : Check) (line : List ℕ) (status : ℕ) → ComesTo c line status → Outcome
comes_to c line status to = outcome_of c.edition c.source to.outcome.stop (map code_of to.goes.definitions)

abbrev tells : (c : Check) (line : List ℕ) (status : ℕ) (to : ComesTo c line status) → Checks c → TellsFirst c.form (comes_to c line status to) c.files (shown_in_form c.form line) status c.out c.out_after c.status
tells c line status to h =
    subst (λ (p : List ℕ × ℕ). TellsFirst c.form (comes_to c line status to) c.files (shown_in_form c.form p.0) p.1 c.out c.out_after c.status) to.told (h to.outcome to.goes)

-- What was told: the line and then findings, with the status of the source.
record WasTold (form : FindingForm) (o : Outcome) (files : Files) (first : List ℕ) (status result : ℕ) (text : List ℕ) : Type 0 where
  more : List ℕ
  are : AreFindings form o status files more
  text_is : text ≡ first ++ more
  status_is : result ≡ status

not_refused : (fault : EndFault) (result : ℕ) → result ≡ status_of fault → result < DEVICE → ⊥
not_refused end_fault.Device result e less = let is : result ≡ 133 = e in let below : result < 133 = less in absurd (omega (arith, is, below))
not_refused end_fault.Memory result e less = let is : result ≡ 134 = e in let below : result < 133 = less in absurd (omega (arith, is, below))

was_told : (form : FindingForm) (o : Outcome) (files : Files) (first : List ℕ) (status result : ℕ) (text before : List ℕ) (old new : Outgoing) → old.written ≡ Some before → new.written ≡ Some (before ++ text) → result < DEVICE
    → TellsFirst form o files first status old new result → WasTold form o files first status result text
was_told form outcome files first status result text before old new o n less (checks.told more are (inl w)) = record {
  more = more;
  are = are;
  text_is = append_cancel_left before _ _ (appended old.written new.written (first ++ more) before (before ++ text) o n w.0.appended);
  status_is = w.1;
}
was_told form outcome files first status result text before old new o n less (checks.told more are (inr r)) = absurd (not_refused r.fault result r.status less)
was_told form outcome files first status result text before old new o n less (checks.no_memory same is) = absurd (not_refused end_fault.Memory result is less)

told_in : (c : Check) (line : List ℕ) (status : ℕ) (text : List ℕ) (to : ComesTo c line status) → IsTold c text → Checks c → WasTold c.form (comes_to c line status to) c.files (shown_in_form c.form line) status c.status text
told_in c line status text to t h = was_told c.form (comes_to c line status to) c.files (shown_in_form c.form line) status c.status text t.before c.out c.out_after t.old t.new t.whole (tells c line status to h)

-- what an edit puts in isn't what it takes out
other_text : (text old : List ℕ) → text ≡ old → IsTrue (not (same_name text old)) → ⊥
other_text text old e h =
    let same : same_name text old ≡ true = (bytes_eq-Decides text old).1 e in
    let no : false ≡ true = ap not (sym same) ∙ h in
    cc

no_change : (source : List ℕ) (e : EditParts source) → mended e ≡ source → ⊥
no_change source e h =
    let here = e.before ++ e.left in
    let after = e.right ++ e.after in
    let same : e.text ++ after ≡ e.old ++ after = append_cancel_left here (e.text ++ after) (e.old ++ after) (h ∙ e.split) in
    other_text e.text e.old (append_cancel_right e.text e.old after same) e.differs

is_definitions : (c : Check) (line : List ℕ) → ComesTo c line DONE → (ds : List Tree) × AllFormed ds × IsSource c.edition c.source ds
is_definitions c line to =
    done_definitions c.edition c.source to.outcome to.goes (no_stop to.outcome.stop (load_fault (map code_of to.goes.definitions)) (ap (λ (p : List ℕ × ℕ). p.1) to.told))

some_due : {P : List ℕ × List ℕ → Type 0} {Q : Type 0} {source : List ℕ} (ps further : List (FindingParts source)) → Any P (map told_at ps) ⊎ ((100 ≤ length (map told_at ps)) × Q) → ps ++ further ≡ [] → ⊥
some_due [] further (inl a) e = absurd (omega (arith, a.2))
some_due [] further (inr g) e = absurd (omega (arith, g.0))
some_due (p ∷ ps) further told e = cc

no_text : (a bs later : List ℕ) (b : ℕ) → (a ++ b ∷ bs) ++ later ≡ [] → ⊥
no_text [] bs later b e = cc
no_text (x ∷ a) bs later b e = cc

no_finding : {source : List ℕ} (form : FindingForm) (s : Severity) (files : Files) (p : FindingParts source) (later : List ℕ) → finding_text form s files p ++ later ≡ [] → ⊥
no_finding form.Text s files p later e =
    no_text (finding_head form.Text s (finding_at files p).file (finding_at files p).line (finding_column p) ++ finding_words form.Text files p) [] later 10 e
no_finding form.Json s files p later e =
    no_text (finding_head form.Json s (finding_at files p).file (finding_at files p).line (finding_column p) ++ finding_words form.Json files p) (10 ∷ []) later 125 e

nothing_told : {source : List ℕ} (form : FindingForm) (status : ℕ) (files : Files) (first more : List ℕ) (ps : List (FindingParts source)) → (ps ≡ [] → ⊥) → [] ≡ first ++ more → more ≡ findings_text form status files ps → ⊥
nothing_told form status files first more [] some e is = some refl
nothing_told form status files (b ∷ first) more (p ∷ ps) some e is = cc
nothing_told form status files [] more (p ∷ ps) some e is = no_finding form (severity_of status) files p _ (sym (e ∙ is))

no_warning : (c : Check) (line : List ℕ) → ComesTo c line DONE → IsTold c [] → (ds : List Tree) → AllFormed ds → IsSource c.edition c.source ds → (at : TokenPlace) (w : Warning) → IsDueIn c.edition c.files c.source ds at w → Checks c → ⊥
no_warning c line to t ds formed is at warning d h =
    let w = told_in c line DONE [] to t h in
    let warned = w.are.7 refl ds formed is in
    nothing_told c.form DONE c.files (shown_in_form c.form line) w.more (w.are.0 ++ w.are.3) (some_due w.are.0 w.are.3 (warned.2.all at warning (d warned.0 warned.1))) w.text_is w.are.5

other_status : Never (λ c line status text. c.status ≢ status)
other_status c line status text to t wrong h = wrong (told_in c line status text to t h).status_is

-- the status is the source's, or 133 after a write that failed, or 134 after one without memory, or with nothing written
abbrev Ends : (status result : ℕ) → (old new : Outgoing) → Type 0
Ends status result old new = (result ≡ status) ⊎ (((result ≡ 133) × Grew old.failures new.failures) ⊎ ((result ≡ 134) × (Grew old.refusals new.refusals ⊎ (new ≡ old))))

module _ (form : FindingForm) (o : Outcome) (files : Files) (first : List ℕ) (status result : ℕ) (old new : Outgoing) where
  refused : (text : List ℕ) (fault : EndFault) → Refuses old text fault new → result ≡ status_of fault → Ends status result old new
  refused text end_fault.Device r s = inr (inl (s, r.counted.0))
  refused text end_fault.Memory r s = inr (inr (s, inl r.counted.0))

  ends : TellsFirst form o files first status old new result → Ends status result old new
  ends (checks.told more are (inl w)) = inl w.1
  ends (checks.told more are (inr r)) = refused (first ++ more) r.fault r.refuses r.status
  ends (checks.no_memory same is) = inr (inr (is, inr same))

small : (stop : Option Diagnostic) (f : Option LoadFault) (line : List ℕ) (status : ℕ) → told_first stop f ≡ (line, status) → status < 133
small (Some d) f line status e = let is : 1 ≡ status = ap (λ (p : List ℕ × ℕ). p.1) e in omega (arith, is)
small None None line status e = let is : 0 ≡ status = ap (λ (p : List ℕ × ℕ). p.1) e in omega (arith, is)
small None (Some fault.NoMain) line status e = let is : 0 ≡ status = ap (λ (p : List ℕ × ℕ). p.1) e in omega (arith, is)
small None (Some (fault.Duplicate name)) line status e = let is : 132 ≡ status = ap (λ (p : List ℕ × ℕ). p.1) e in omega (arith, is)
small None (Some fault.TooLarge) line status e = let is : 132 ≡ status = ap (λ (p : List ℕ × ℕ). p.1) e in omega (arith, is)
small None (Some (fault.Undefined name)) line status e = let is : 132 ≡ status = ap (λ (p : List ℕ × ℕ). p.1) e in omega (arith, is)
small None (Some fault.Memory) line status e = let is : 132 ≡ status = ap (λ (p : List ℕ × ℕ). p.1) e in omega (arith, is)

-- it is none that the source doesn't have and that no such write gives
clash : (c : Check) (line : List ℕ) (status : ℕ) → ComesTo c line status → Checks c → 132 < c.status
    → (c.status ≡ 133 → Grew c.out.failures c.out_after.failures → ⊥) → (c.status ≡ 134 → Grew c.out.refusals c.out_after.refusals ⊎ (c.out_after ≡ c.out) → ⊥) → ⊥
clash c line status to h more device memory =
    let less = small to.outcome.stop (load_fault (map code_of to.goes.definitions)) line status to.told in
    ⊎_elim (λ is. absurd (omega (arith, is, less, more))) (⊎_elim (λ d. device d.0 d.1) (λ m. memory m.0 m.1))
    (ends c.form (comes_to c line status to) c.files (shown_in_form c.form line) status c.status c.out c.out_after (tells c line status to h))

-- the line of a source that is known to come to it
known_line : (c : Check) (edition : Edition) (source code line text wrong : List ℕ) (a b : ℕ) → c.edition ≡ edition → c.source ≡ source → c.form ≡ form.Text → ComesIn edition source code (a ∷ line) → IsTold c text
    → StartsWith text (b ∷ wrong) → Checks c → a ≡ b
known_line c edition source code line text wrong a b e s f comes t start h = at_stop comes.outcome.stop refl comes.line_is
  where
    goes : CompilesTo [] (tokens_from c.edition 1 c.source) comes.outcome
    goes = subst (λ x. CompilesTo [] (tokens_from x 1 c.source) comes.outcome) (sym e) (subst (λ x. CompilesTo [] (tokens_from edition 1 x) comes.outcome) (sym s) comes.goes)

    at_stop : (stop : Option Diagnostic) → comes.outcome.stop ≡ stop → fault_text stop ≡ a ∷ line → a ≡ b
    at_stop None is same = absurd (let no : ◌≡◌ {A = List ℕ} [] (a ∷ line) = same in cc)
    at_stop (Some d) is same =
        let to : ComesTo c (line_of d) FAULT = record { outcome = comes.outcome; goes = goes; told = ap (λ x. told_first x (load_fault (map code_of goes.definitions))) is } in
        let w = told_in c (line_of d) FAULT text to t h in
        let begun : text ≡ a ∷ (line ++ w.more) = w.text_is ∙ ap (λ x. shown_in_form x (line_of d) ++ w.more) f ∙ ap (λ x. x ++ w.more) same in
        let other : take (suc (length wrong)) (a ∷ (line ++ w.more)) ≡ b ∷ wrong = subst (λ x. StartsWith x (b ∷ wrong)) begun start in
        cc

pub excluded : Excluded
excluded = record {
  other_status = other_status;
  no_change = no_change;
  is_definitions = is_definitions;
  no_warning = no_warning;
  no_failure = λ c line status to is none h. clash c line status to h (omega (arith, is)) (λ e. none) (λ e m. absurd (omega (arith, is, e)));
  no_refusal = λ c line status to is none some h. clash c line status to h (omega (arith, is)) (λ e d. absurd (omega (arith, is, e))) (λ e m. ⊎_elim none some m);
  no_such_status = λ c line status to more h. clash c line status to h (omega (arith, more)) (λ e d. absurd (omega (arith, more, e))) (λ e m. absurd (omega (arith, more, e)));
  first_edition = λ c text s e f t start h. let no = known_line c editions.Two _ _ _ text _ 115 117 e s f a_break_outside t start h in absurd (omega (arith, no));
  second_edition = λ c text s e f t start h. let no = known_line c editions.One _ _ _ text _ 117 115 e s f a_break_of_one t start h in absurd (omega (arith, no));
}
