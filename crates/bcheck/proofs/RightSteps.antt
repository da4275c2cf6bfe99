-- The definitions of a source that compiles, and what shows that one isn't right.
use Rattle.std.proofs.Common.{◌≡◌, ◌∙◌, ◌||◌, ℕ, Bool, List, [], ◌∷◌, ◌++◌, Option, Some, None, true, false, ap, arith, map, refl, subst, sym, take, ◌+◌, ◌-◌, ◌≤◌, ◌<◌, zero, suc, length}
use Rattle.std.specs.List.{All, list_any, AllZip}
use Rattle.std.proofs.lemmas.List.Elements.{All-head, All-tail}
use Rattle.bword.specs.declared.edition.Edition.{Edition}
use Rattle.blang.specs.Code.{fault_of, code_of}
use Rattle.blang.specs.Compiles.{Compilation, CompilesTo, Defined, compilation_of, compilation_with, compiled_text}
use Rattle.blang.specs.Cut.{tokens_from}
use Rattle.blang.specs.Scan.{identifier_of}
use Rattle.blang.specs.Trees.{Definition as Tree, bare}
use Rattle.blang.specs.WellFormed.{AllFormed, StopsAt}
use Rattle.blang.specs.declared.run.LoadFault.{LoadFault}
use Rattle.blang.specs.declared.status.TheConstants.{DONE, FAULT}
use Rattle.blang.specs.declared.token.Diagnostic.{Diagnostic}
use Rattle.bgrammar.proofs.GoesLaws.{each_source_comes}
use Rattle.blint.specs.SourceTokens.{IsSource}
use Rattle.blint.specs.Warns.{IsDueBy}
use Rattle.blint.specs.declared.warnings.Warning.{Warning}
use Rattle.bmatch.specs.declared.tree.TokenPlace.{TokenPlace}
use Rattle.bsources.specs.Files.{Files}
use Rattle.bcheck.specs.Checks.{told_first, EachOutcome, IsWhole, Judged, Outcome, outcome_of, status_told, verdict_line}
use Rattle.bcheck.specs.Findings.{found_at, matter_code, AreWarned, AreWhole, IsOnSection, IsStopOf, TellsAfter, TellsOf}
use Rattle.bcheck.specs.Right.{IsRight}
use Rattle.bcheck.specs.RuleWarnings.{IsOfRules, TellsWarnings, is_rule_code, warning_code}
use Rattle.bcheck.specs.declared.finding.Finding.{Finding}
use Rattle.std.proofs.lemmas.List.{length-map}
use Rattle.std.proofs.lemmas.Slice.Zip.{AllZip-long}
use Rattle.bword.specs.ByteEnds.{Kept}
use Rattle.blang.specs.Layout.{load_fault}
use Rattle.bcheck.specs.Counts.{IsCountFrom, IsCountOfWarnings, IsTally, IsTallyOf}
use Rattle.bcheck.specs.Sections.{at_fault, sections}
use Rattle.bcheck.specs.UndefinedNames.{told_subjects}
use Rattle.bcheck.specs.declared.finding.TheConstants.{MOST_FINDINGS}
use Rattle.bcheck.specs.declared.verdict.Verdict.{Verdict}
use Rattle.blang.specs.declared.run.LoadFault.TheVariants as fault
use Rattle.bcheck.specs.declared.verdict.Verdict.TheVariants as verdict

with_none : (f : Option Diagnostic) (text : List ℕ) (later : Compilation) → (compilation_with f text later).stop ≡ None → later.stop ≡ None
with_none None text later e = e
with_none (Some f) text later e = let g : Some f ≡ None = e in cc

stop_none : (names : Defined) (ds : List Tree) (stop : Option Diagnostic) → (compilation_of names ds stop).stop ≡ None → stop ≡ None
stop_none names [] stop e = e
stop_none names (d ∷ ds) stop e =
    let after = names ++ (identifier_of d).text ∷ [] in stop_none after ds stop (with_none (fault_of names d) (compiled_text d) (compilation_of after ds stop) e)

-- a source without a diagnostic is definitions
pub done_definitions : (edition : Edition) (source : List ℕ) (r : Compilation) (g : CompilesTo [] (tokens_from edition 1 source) r) → r.stop ≡ None → (ds : List Tree) × AllFormed ds × IsSource edition source ds
done_definitions edition source r g clean =
    let none : g.stop ≡ None = stop_none [] g.definitions g.stop (sym (ap (λ (x : Compilation). x.stop) g.outcome_is) ∙ clean) in
    let p = g.parted in
    let stops = subst (StopsAt (map bare p.before) p.at) none p.stops in (
      stops.1.definitions,
      stops.1.formed,
      record { before = p.before; end = p.at; none = p.following; split = p.split; ends = stops.0; spelled = stops.1.spelled },
    )

-- what compiles and loads has no diagnostic
pub no_stop : (stop : Option Diagnostic) (f : Option LoadFault) → (told_first stop f).1 ≡ DONE → stop ≡ None
no_stop None f e = refl
no_stop (Some d) f e = let no : ◌≡◌ {A = ℕ} 1 0 = e in absurd (omega (arith, no))

-- one of those that are told has such a code, which is due then
one_due : {Due : List ℕ × List ℕ → Type 0} (told : List (List ℕ × List ℕ)) → All (λ t. IsOfRules t.1 → Due t) told → list_any (λ t. is_rule_code t.1) told ≡ true
    → (t : List ℕ × List ℕ) × Due t
one_due {Due = Due} [] all some = absurd (no some)
  where
    no : ◌≡◌ {A = Bool} false true → ⊥
    no e = cc
one_due {Due = Due} (t ∷ ts) all some = by (is_rule_code t.1) refl (λ more. one_due {Due = Due} ts (All-tail (λ x. IsOfRules x.1 → Due x) t ts all) more)
  where
    by : (b : Bool) → is_rule_code t.1 ≡ b → (list_any (λ x. is_rule_code x.1) ts ≡ true → (x : List ℕ × List ℕ) × Due x) → (x : List ℕ × List ℕ) × Due x
    by true e again = (t, All-head (λ x. IsOfRules x.1 → Due x) t ts all e)
    by false e again = again (sym (ap (λ (b : Bool). b || list_any (λ x. is_rule_code x.1) ts) e) ∙ some)

-- a source of which it is told isn't right
pub told_wrong : (edition : Edition) (files : Files) (source : List ℕ) (told : List (List ℕ × List ℕ)) → TellsWarnings edition files source told
    → list_any (λ t. is_rule_code t.1) told ≡ true → IsRight edition files source → ⊥
told_wrong edition files source told tells some right =
    let it = each_source_comes [] edition 1 source in
    let ds = done_definitions edition source it.0 it.1 (no_stop it.0.stop _ (right.done it.0 it.1)) in
    let warned = tells ds.0 ds.1 ds.2 in
    let Due = λ (t : List ℕ × List ℕ). (at : TokenPlace) × (w : Warning) × IsDueBy edition files source warned.0 at w × (t.0 ≡ take at.start source) × (t.1 ≡ warning_code w) in
    let due = one_due {Due = Due} told warned.2.meant some in
    right.quiet ds.0 ds.1 ds.2 warned.0 warned.1 due.1.0 due.1.1 due.1.2

-- by findings
codes_among : (source : List ℕ) (found : List Finding) → list_any (λ t. is_rule_code t.1) (map (found_at source) found) ≡ list_any (λ f. is_rule_code (matter_code f.matter)) found
codes_among source [] = refl
codes_among source (f ∷ fs) = ap (λ b. is_rule_code (matter_code f.matter) || b) (codes_among source fs)

pub found_wrong : (edition : Edition) (files : Files) (source : List ℕ) (found : List Finding) → TellsWarnings edition files source (map (found_at source) found)
    → list_any (λ f. is_rule_code (matter_code f.matter)) found ≡ true → IsRight edition files source → ⊥
found_wrong edition files source found tells some right =
    told_wrong edition files source (map (found_at source) found) tells (codes_among source found ∙ some) right

-- How many faults or warnings are told, by what is found.

-- at most so many are taken
few_taken : {A : Type 0} (n : ℕ) (xs : List A) → length (take n xs) ≤ n
few_taken zero xs = omega arith
few_taken (suc n) [] = omega arith
few_taken (suc n) (x ∷ xs) = let r = few_taken n xs in omega (arith, r)

-- what is found of the sections after a line
pub few_after : (edition : Edition) (source : List ℕ) (line : ℕ) (found : List Finding) → TellsAfter edition source line found → length found < MOST_FINDINGS
few_after edition source line found h =
    let told = take (MOST_FINDINGS - 1) (at_fault (sections edition line source) h.0) in
    let long = AllZip-long (IsOnSection edition source) told found h.2 in
    let few = few_taken (MOST_FINDINGS - 1) (at_fault (sections edition line source) h.0) in
    omega (arith, long, few)

pub count_from : (edition : Edition) (source : List ℕ) (line : ℕ) (found : List Finding) (count : ℕ) → count ≡ length found + 1 → TellsAfter edition source line found → IsCountFrom edition line source count
count_from edition source line found count is h =
    let told = take (MOST_FINDINGS - 1) (at_fault (sections edition line source) h.0) in
    let long = AllZip-long (IsOnSection edition source) told found h.2 in
    (h.0, h.1, omega (arith, is, long))

pub faulty_tally : (edition : Edition) (files : Files) (source : List ℕ) (v : Verdict) (line : Kept) (d : Diagnostic) (count : ℕ) → v ≡ verdict.Faulty line d → IsStopOf edition source v → IsCountFrom edition d.line source count
    → EachOutcome edition source (λ o. IsTally o files count)
faulty_tally edition files source v line d count is stop counted =
    λ r g. subst (λ s. IsTallyOf (outcome_of edition source r.stop (map code_of g.definitions)) files s (load_fault (map code_of g.definitions)) count) (sym ((subst (λ x. IsStopOf edition source x) is stop) r g)) counted

-- warnings, of what compiles and loads
warned : (edition : Edition) (files : Files) (source : List ℕ) (found : List Finding) → TellsWarnings edition files source (map (found_at source) found) → IsCountOfWarnings edition files source (length found)
warned edition files source found told = (map (found_at source) found, told, sym (length-map found (found_at source)))

module _ (o : Outcome) (files : Files) (source : List ℕ) (found : List Finding) (line : List ℕ) (status : ℕ) where
  status_in : (other : List ℕ) (n : ℕ) → ◌≡◌ {A = List ℕ × ℕ} (line, status) (other, n) → status ≡ n
  status_in other n e = ap (λ (p : List ℕ × ℕ). p.1) e

  tally_of : (stop : Option Diagnostic) (f : Option LoadFault) → (status ≡ FAULT → ⊥) → ◌≡◌ {A = List ℕ × ℕ} (line, status) (told_first stop f) → IsWhole (TellsOf source) stop f o.definitions found
      → (status ≡ DONE → TellsWarnings o.edition files o.source (map (found_at o.source) found)) → IsTallyOf o files stop f (length found)
  tally_of (Some d) f other e whole due = absurd (other (ap (λ (p : List ℕ × ℕ). p.1) e))
  tally_of None None other e whole due = warned o.edition files o.source found (due (ap (λ (p : List ℕ × ℕ). p.1) e))
  tally_of None (Some (fault.Duplicate name)) other e whole due = whole
  tally_of None (Some fault.TooLarge) other e whole due = whole
  tally_of None (Some (fault.Undefined name)) other e whole due = AllZip-long (TellsOf source) (told_subjects o.definitions) found whole
  tally_of None (Some fault.NoMain) other e whole due = warned o.edition files o.source found (due (ap (λ (p : List ℕ × ℕ). p.1) e))
  tally_of None (Some fault.Memory) other e whole due = whole

pub found_tally : (edition : Edition) (files : Files) (source : List ℕ) (v : Verdict) (found : List Finding) (count : ℕ) → (status_told v ≡ FAULT → ⊥) → Judged edition source v → AreWhole edition source found → AreWarned edition files source (status_told v) found
    → count ≡ length found → EachOutcome edition source (λ o. IsTally o files count)
found_tally edition files source v found count other j whole due is =
    λ r g. subst (λ n. IsTally (outcome_of edition source r.stop (map code_of g.definitions)) files n) (sym is)
    (tally_of (outcome_of edition source r.stop (map code_of g.definitions)) files source found (verdict_line v) (status_told v) r.stop (load_fault (map code_of g.definitions)) other (j r g) (whole r g) due)

-- the status of a verdict that is no fault of the source
pub clean_status : (v : Verdict) → v ≡ verdict.Clean → status_told v ≡ FAULT → ⊥
clean_status v is e = let no : ◌≡◌ {A = ℕ} 0 1 = sym (ap status_told is) ∙ e in absurd (omega (arith, no))

pub unloaded_status : (v : Verdict) (f : LoadFault) → v ≡ verdict.Unloaded f → status_told v ≡ FAULT → ⊥
unloaded_status v f is e = let no : ◌≡◌ {A = ℕ} 132 1 = sym (ap status_told is) ∙ e in absurd (omega (arith, no))
