-- Why an error is told: it is one of what the source comes to.
use Rattle.std.proofs.Common.{◌≡◌, ◌<◌, ℕ, List, [], ◌∷◌, Option, Some, None, Result, Ok, Err, IfOk, ap, arith, codes, drop, get_or, length, map, refl, subst, sym, take, ◌∙◌, ◌≤◌, ◌+◌, ◌++◌, ◌⊎◌, inl, inr, true}
use Rattle.std.specs.Global.{Vec}
use Rattle.std.specs.List.{All, AllZip, Any}
use Rattle.std.specs.Prelude.{MatchResult, unwrap_or}
use Rattle.std.proofs.lemmas.List.Elements.{All-cons, All-get_or, All-nil, All-weaker, All-map}
use Rattle.blang.specs.declared.code.Definition.{Definition}
use Rattle.blang.specs.Code.{code_of}
use Rattle.blang.specs.Compiles.{Compilation, CompilesTo}
use Rattle.blang.specs.Cut.{tokens_from}
use Rattle.blang.specs.Layout.{load_fault}
use Rattle.bword.specs.ByteEnds.{Kept}
use Rattle.bword.specs.declared.edition.Edition.{Edition}
use Rattle.blang.specs.declared.run.LoadFault.{LoadFault}
use Rattle.blang.specs.declared.token.Diagnostic.{Diagnostic}
use Rattle.btools.specs.Programs.{HasFault, IsCodeOf, load_line}
use Rattle.bcheck.specs.Checks.{EachOutcome, IsWhole, Judged, Reason, fault_in, told_first, load_told, verdict_line, status_told}
use Rattle.bcheck.specs.Findings.{AreWhole, IsCompiled, IsReasoned, IsStopOf, ReasonAt, TellsFault, TellsOf, definitions_in, definitions_of, matter_code, AreWarned, found_at}
use Rattle.bcheck.specs.UndefinedNames.{told_subjects}
use Rattle.bcheck.specs.declared.compiled.Compiled.{Compiled}
use Rattle.bcheck.specs.declared.mention.Subject.{Subject}
use Rattle.bcheck.specs.declared.finding.Finding.{Finding}
use Rattle.bcheck.specs.declared.verdict.Verdict.{Verdict}
use Rattle.std.proofs.lemmas.List.{get_or-map, get_or_default, length-map, length-take, map-append, take_more}
use Rattle.bsources.specs.Files.{Files}
use Rattle.blint.specs.declared.cautions.Caution.{Caution}
use Rattle.bmatch.specs.declared.tree.TokenPlace.{TokenPlace}
use Rattle.blint.specs.declared.warnings.Slip.{Slip}
use Rattle.blint.specs.declared.warnings.Warning.{Warning}
use Rattle.blint.specs.Warns.{IsDueBy, TellsDue, TellsOf as TellsOfTokens, Warns, entry, is_of_rules}
use Rattle.bcheck.specs.RuleWarnings.{IsOfRules, TellsWarnings, caution_at, slip_code, warning_code}
use Rattle.blang.specs.declared.run.LoadFault.TheVariants as fault
use Rattle.bcheck.specs.declared.mention.Subject.TheVariants as subject
use Rattle.bcheck.specs.declared.verdict.Verdict.TheVariants as verdict
use Rattle.blint.specs.declared.warnings.Slip.TheVariants as slip
use Rattle.blint.specs.declared.warnings.Warning.TheVariants as warning
use Rattle.bcheck.specs.declared.advice.Matter.TheVariants as matter

status_in : {line other : List ℕ} {a b : ℕ} → ◌≡◌ {A = List ℕ × ℕ} (line, a) (other, b) → a ≡ b
status_in e = ap (λ (p : List ℕ × ℕ). p.1) e

line_in : {line other : List ℕ} {a b : ℕ} → ◌≡◌ {A = List ℕ × ℕ} (line, a) (other, b) → line ≡ other
line_in e = ap (λ (p : List ℕ × ℕ). p.0) e

not_of_load : (g : LoadFault) (line : List ℕ) → ◌≡◌ {A = List ℕ × ℕ} (line, 1) (load_told g) → ⊥
not_of_load (fault.Duplicate name) line e = let no : ◌≡◌ {A = ℕ} 1 132 = status_in e in absurd (omega (arith, no))
not_of_load fault.TooLarge line e = let no : ◌≡◌ {A = ℕ} 1 132 = status_in e in absurd (omega (arith, no))
not_of_load (fault.Undefined name) line e = let no : ◌≡◌ {A = ℕ} 1 132 = status_in e in absurd (omega (arith, no))
not_of_load fault.NoMain line e = let no : ◌≡◌ {A = ℕ} 1 0 = status_in e in absurd (omega (arith, no))
not_of_load fault.Memory line e = let no : ◌≡◌ {A = ℕ} 1 132 = status_in e in absurd (omega (arith, no))

not_third : (g : LoadFault) → ((name : List ℕ) → g ≡ fault.Undefined name → ⊥) → unwrap_or (load_line g) [] ≡ codes "load 3\n" → ⊥
not_third (fault.Duplicate name) other e = let no : ◌≡◌ {A = ℕ} 49 51 = ap (λ l. get_or l 5 0) e in absurd (omega (arith, no))
not_third fault.TooLarge other e = let no : ◌≡◌ {A = ℕ} 50 51 = ap (λ l. get_or l 5 0) e in absurd (omega (arith, no))
not_third (fault.Undefined name) other e = other name refl
not_third fault.NoMain other e = let no : ◌≡◌ {A = ℕ} 52 51 = ap (λ l. get_or l 5 0) e in absurd (omega (arith, no))
not_third fault.Memory other e = let no : ◌≡◌ {A = ℕ} 0 51 = ap (λ l. get_or l 5 0) e in absurd (omega (arith, no))

module _ (edition : Edition) (before rest : List ℕ) where
  of_fault : (code : List ℕ) (line : List ℕ) (stop : Option Diagnostic) (f : Option LoadFault) → ((d : Diagnostic) → stop ≡ Some d → Reason edition (Some d) f code before rest)
      → ◌≡◌ {A = List ℕ × ℕ} (line, 1) (told_first stop f) → Reason edition stop f code before rest
  of_fault code line (Some d) f t e = t d refl
  of_fault code line None None t e = let no : ◌≡◌ {A = ℕ} 1 0 = status_in e in absurd (omega (arith, no))
  of_fault code line None (Some g) t e = absurd (not_of_load g line e)

  of_none : (code : List ℕ) (stop : Option Diagnostic) (f : Option LoadFault) → ◌≡◌ {A = List ℕ × ℕ} ([], 0) (told_first stop f) → Reason edition stop f code before rest
  of_none code (Some d) f e = let no : ◌≡◌ {A = ℕ} 0 1 = status_in e in absurd (omega (arith, no))
  of_none code None None e = tt
  of_none code None (Some (fault.Duplicate name)) e = tt
  of_none code None (Some fault.TooLarge) e = let no : ◌≡◌ {A = ℕ} 0 132 = status_in e in absurd (omega (arith, no))
  of_none code None (Some (fault.Undefined name)) e = let no : ◌≡◌ {A = ℕ} 0 132 = status_in e in absurd (omega (arith, no))
  of_none code None (Some fault.NoMain) e = tt
  of_none code None (Some fault.Memory) e = tt

  of_undefined : (stop : Option Diagnostic) (f : Option LoadFault) → ◌≡◌ {A = List ℕ × ℕ} (codes "load 3\n", 132) (told_first stop f) → Reason edition stop f (codes "load 3") before rest
  of_undefined (Some d) f e = let no : ◌≡◌ {A = ℕ} 132 1 = status_in e in absurd (omega (arith, no))
  of_undefined None None e = tt
  of_undefined None (Some (fault.Duplicate name)) e = tt
  of_undefined None (Some fault.TooLarge) e = let no : ◌≡◌ {A = ℕ} 51 50 = ap (λ l. get_or l 5 0) (line_in e) in absurd (omega (arith, no))
  of_undefined None (Some (fault.Undefined name)) e = refl
  of_undefined None (Some fault.NoMain) e = tt
  of_undefined None (Some fault.Memory) e = tt

  of_other : (g : LoadFault) → ((name : List ℕ) → g ≡ fault.Undefined name → ⊥) → (stop : Option Diagnostic) (f : Option LoadFault) → ◌≡◌ {A = List ℕ × ℕ} (unwrap_or (load_line g) [], 132) (told_first stop f)
      → Reason edition stop f (codes "load 2") before rest
  of_other g other (Some d) f e = let no : ◌≡◌ {A = ℕ} 132 1 = status_in e in absurd (omega (arith, no))
  of_other g other None None e = tt
  of_other g other None (Some (fault.Duplicate name)) e = tt
  of_other g other None (Some fault.TooLarge) e = refl
  of_other g other None (Some (fault.Undefined name)) e = absurd (not_third g other (line_in e))
  of_other g other None (Some fault.NoMain) e = tt
  of_other g other None (Some fault.Memory) e = tt

-- all is told, by the line and the status of the verdict
module _ (source : List ℕ) (ds : List Definition) (found : List Finding) where
  whole_of_none : (stop : Option Diagnostic) (f : Option LoadFault) → ◌≡◌ {A = List ℕ × ℕ} ([], 0) (told_first stop f) → IsWhole (TellsOf source) stop f ds found
  whole_of_none (Some d) f e = let no : ◌≡◌ {A = ℕ} 0 1 = status_in e in absurd (omega (arith, no))
  whole_of_none None None e = tt
  whole_of_none None (Some (fault.Duplicate name)) e = let no : ◌≡◌ {A = ℕ} 0 132 = status_in e in absurd (omega (arith, no))
  whole_of_none None (Some fault.TooLarge) e = let no : ◌≡◌ {A = ℕ} 0 132 = status_in e in absurd (omega (arith, no))
  whole_of_none None (Some (fault.Undefined name)) e = let no : ◌≡◌ {A = ℕ} 0 132 = status_in e in absurd (omega (arith, no))
  whole_of_none None (Some fault.NoMain) e = tt
  whole_of_none None (Some fault.Memory) e = let no : ◌≡◌ {A = ℕ} 0 132 = status_in e in absurd (omega (arith, no))

  whole_of_names : (stop : Option Diagnostic) (f : Option LoadFault) → ◌≡◌ {A = List ℕ × ℕ} (codes "load 3\n", 132) (told_first stop f) → AllZip (TellsOf source) (told_subjects ds) found → IsWhole (TellsOf source) stop f ds found
  whole_of_names (Some d) f e each = let no : ◌≡◌ {A = ℕ} 132 1 = status_in e in absurd (omega (arith, no))
  whole_of_names None None e each = tt
  whole_of_names None (Some (fault.Duplicate name)) e each = let no : ◌≡◌ {A = ℕ} 51 49 = ap (λ l. get_or l 5 0) (line_in e) in absurd (omega (arith, no))
  whole_of_names None (Some fault.TooLarge) e each = let no : ◌≡◌ {A = ℕ} 51 50 = ap (λ l. get_or l 5 0) (line_in e) in absurd (omega (arith, no))
  whole_of_names None (Some (fault.Undefined name)) e each = each
  whole_of_names None (Some fault.NoMain) e each = tt
  whole_of_names None (Some fault.Memory) e each = let no : ◌≡◌ {A = ℕ} 51 0 = ap (λ l. get_or l 5 0) (line_in e) in absurd (omega (arith, no))

  whole_of_one : (g : LoadFault) → ((name : List ℕ) → g ≡ fault.Undefined name → ⊥) → (stop : Option Diagnostic) (f : Option LoadFault) → ◌≡◌ {A = List ℕ × ℕ} (unwrap_or (load_line g) [], 132) (told_first stop f)
      → length found ≡ 1 → IsWhole (TellsOf source) stop f ds found
  whole_of_one g other (Some d) f e one = one
  whole_of_one g other None None e one = tt
  whole_of_one g other None (Some (fault.Duplicate name)) e one = one
  whole_of_one g other None (Some fault.TooLarge) e one = one
  whole_of_one g other None (Some (fault.Undefined name)) e one = absurd (not_third g other (line_in e))
  whole_of_one g other None (Some fault.NoMain) e one = tt
  whole_of_one g other None (Some fault.Memory) e one = one

no_stop_of_load : (d : Diagnostic) (f : Option LoadFault) (line : List ℕ) → ◌≡◌ {A = List ℕ × ℕ} (line, 132) (told_first (Some d) f) → ⊥
no_stop_of_load d f line e = let no : ◌≡◌ {A = ℕ} 132 1 = status_in e in absurd (omega (arith, no))

module _ (edition : Edition) (source : List ℕ) (found : List Finding) where
  pub clean_whole : Judged edition source verdict.Clean → AreWhole edition source found
  clean_whole j = λ r g. whole_of_none source (map code_of g.definitions) found r.stop (load_fault (map code_of g.definitions)) (j r g)

  pub faulty_whole : (v : Verdict) (line : Kept) (d : Diagnostic) → v ≡ verdict.Faulty line d → IsStopOf edition source v → length found ≡ 1 → AreWhole edition source found
  faulty_whole v line d is stop one =
      λ r g. subst (λ s. IsWhole (TellsOf source) s (load_fault (map code_of g.definitions)) (map code_of g.definitions) found) (sym ((subst (λ x. IsStopOf edition source x) is stop) r g)) one

  pub other_whole : (v : LoadFault) → ((name : List ℕ) → v ≡ fault.Undefined name → ⊥) → Judged edition source (verdict.Unloaded v) → length found ≡ 1 → AreWhole edition source found
  other_whole v other j one = λ r g. whole_of_one source (map code_of g.definitions) found v other r.stop (load_fault (map code_of g.definitions)) (j r g) one

  names_whole : (code : Result (Vec Definition) Diagnostic) → MatchResult code (λ v. IsCodeOf edition source v.items) (HasFault edition source)
      → EachOutcome edition source (λ o. ◌≡◌ {A = List ℕ × ℕ} (codes "load 3\n", 132) (told_first o.stop (fault_in o))) → AllZip (TellsOf source) (told_subjects (definitions_of code)) found → AreWhole edition source found
  names_whole (Ok v) is j each =
      λ r g. whole_of_names source (map code_of g.definitions) found r.stop (load_fault (map code_of g.definitions)) (j r g) (subst (λ ds. AllZip (TellsOf source) (told_subjects ds) found) (sym (is r g).1) each)
  names_whole (Err d) is j each =
      λ r g. absurd (no_stop_of_load d (load_fault (map code_of g.definitions)) (codes "load 3\n") (subst (λ s. ◌≡◌ {A = List ℕ × ℕ} (codes "load 3\n", 132) (told_first s (load_fault (map code_of g.definitions)))) (is r g) (j r g)))

  pub undefined_whole : (name : List ℕ) (v : LoadFault) (c : Compiled) → v ≡ fault.Undefined name → Judged edition source (verdict.Unloaded v) → IsCompiled edition source c → AllZip (TellsOf source) (told_subjects (definitions_in c)) found → AreWhole edition source found
  undefined_whole name v c is j compiled each =
      names_whole c.code compiled (λ r g. subst (λ x. ◌≡◌ {A = List ℕ × ℕ} (unwrap_or (load_line x) [], 132) (told_first r.stop (load_fault (map code_of g.definitions)))) is (j r g)) each

pub every_ok : {X E : Type 0} (r : Result X E) (P : X → Type 0) → ((x : X) → P x) → IfOk r P
every_ok (Ok x) P f = f x
every_ok (Err e) P f = tt

module _ (edition : Edition) (source : List ℕ) where
  abbrev found : (r : Compilation) (g : CompilesTo [] (tokens_from edition 1 source) r) → Option LoadFault
  found r g = load_fault (map code_of g.definitions)

  same_fault : (o : Compilation) (d e : Diagnostic) → o.stop ≡ Some d → o.stop ≡ Some e → d ≡ e
  same_fault o d e p q = cc

  pub faulty_reason : (v : Verdict) (line : Kept) (d : Diagnostic) (f : Finding) → v ≡ verdict.Faulty line d → Judged edition source v → IsStopOf edition source v → TellsFault edition source d f → IsReasoned edition source f
  faulty_reason v line d f is j stop tells =
      λ r g. of_fault edition (take f.place.start source) (drop f.place.start source) (matter_code f.matter) (verdict_line v) r.stop (found r g)
      (λ e stopped. subst (λ x. TellsFault edition source x f) (same_fault r d e ((subst (λ x. IsStopOf edition source x) is stop) r g) stopped) tells)
      (subst (λ n. ◌≡◌ {A = List ℕ × ℕ} (verdict_line v, n) (told_first r.stop (found r g))) (ap status_told is) (j r g))

  pub clean_reasons : Judged edition source verdict.Clean → (fs : List Finding) → All (IsReasoned edition source) fs
  clean_reasons j fs = λ k d lt r g.
      let f = get_or fs k d in
      of_none edition (take f.place.start source) (drop f.place.start source) (matter_code f.matter) r.stop (found r g) (j r g)

  pub undefined_reason : (name : List ℕ) (v : LoadFault) (f : Finding) → v ≡ fault.Undefined name → Judged edition source (verdict.Unloaded v) → matter_code f.matter ≡ codes "load 3" → IsReasoned edition source f
  undefined_reason name v f is j e =
      λ r g. subst (λ k. Reason edition r.stop (found r g) k (take f.place.start source) (drop f.place.start source)) (sym e)
      (of_undefined edition (take f.place.start source) (drop f.place.start source) r.stop (found r g) (subst (λ x. ◌≡◌ {A = List ℕ × ℕ} (unwrap_or (load_line x) [], 132) (told_first r.stop (found r g))) is (j r g)))

  on_code : (subject : Subject) (f : Finding) → TellsOf source subject f → matter_code f.matter ≡ codes "load 3"
  on_code (subject.Name x) f on = ap matter_code on.0.2
  on_code (subject.Word x) f on = ap matter_code on.0.2
  on_code (subject.Typed x) f on = ap matter_code on.0.1

  all_codes : (subjects : List Subject) (fs : List Finding) → AllZip (TellsOf source) subjects fs → All (λ f. matter_code f.matter ≡ codes "load 3") fs
  all_codes [] [] on = All-nil (λ f. matter_code f.matter ≡ codes "load 3")
  all_codes [] (f ∷ fs) on = absurd on
  all_codes (s ∷ ss) [] on = absurd on
  all_codes (s ∷ ss) (f ∷ fs) on = All-cons (λ f. matter_code f.matter ≡ codes "load 3") f fs (on_code s f on.0) (all_codes ss fs on.1)

  pub undefined_reasons : (name : List ℕ) (v : LoadFault) (subjects : List Subject) (fs : List Finding) → v ≡ fault.Undefined name → Judged edition source (verdict.Unloaded v) → AllZip (TellsOf source) subjects fs → All (IsReasoned edition source) fs
  undefined_reasons name v subjects fs is j each = All-weaker (λ f. matter_code f.matter ≡ codes "load 3") (IsReasoned edition source) (λ f e. undefined_reason name v f is j e) fs (all_codes subjects fs each)

  pub other_reason : (v : LoadFault) (start : ℕ) → ((name : List ℕ) → v ≡ fault.Undefined name → ⊥) → Judged edition source (verdict.Unloaded v) → EachOutcome edition source (ReasonAt (codes "load 2") start)
  other_reason v start other j = λ r g. of_other edition (take start source) (drop start source) v other r.stop (found r g) (j r g)

  -- one finding, and one among several
  pub one_reasoned : (fs : List Finding) (f : Finding) → fs ≡ f ∷ [] → IsReasoned edition source f → All (IsReasoned edition source) fs
  one_reasoned fs f e is = subst (λ x. All (IsReasoned edition source) x) (sym e) (All-cons (IsReasoned edition source) f [] is (All-nil (IsReasoned edition source)))

  pub item_reason : (fs xs : List Finding) (i : ℕ) (f : Finding) (code : List ℕ) → xs ≡ fs → i < length xs → f ≡ get_or xs i f → All (IsReasoned edition source) fs → code ≡ matter_code f.matter
      → EachOutcome edition source (ReasonAt code f.place.start)
  item_reason fs xs i f code same lt is all e =
      subst (λ k. EachOutcome edition source (ReasonAt k f.place.start)) (sym e)
      (subst (λ x. IsReasoned edition source x) (sym is) (All-get_or (IsReasoned edition source) xs i f lt (subst (λ x. All (IsReasoned edition source) x) (sym same) all)))

-- What cautions tell of the rules their findings tell, too.

any_of_map : {A B : Type 0} (P : B → Type 0) (f : A → B) (xs : List A) → Any P (map f xs) → Any (λ x. P (f x)) xs
any_of_map P f [] a = absurd (omega (arith, a.2))
any_of_map P f (x ∷ xs) a =
    let lt : a.0 < length (x ∷ xs) = omega (arith, a.2, length-map (x ∷ xs) f) in
    let y = get_or (x ∷ xs) a.0 x in
    (a.0, y, lt, get_or_default (x ∷ xs) a.0 y x lt, subst P (sym a.3 ∙ get_or-map f (x ∷ xs) a.0 x a.1 lt) a.4)

any_to_map : {A B : Type 0} (P : B → Type 0) (f : A → B) (xs : List A) → Any (λ x. P (f x)) xs → Any P (map f xs)
any_to_map P f xs a = (a.0, f a.1, omega (arith, a.2, length-map xs f), get_or-map f xs a.0 a.1 (f a.1) a.2 ∙ ap f a.3, a.4)

slip_of_rules : (s : Slip) → IsOfRules (slip_code s) → is_of_rules (warning.Slip s) ≡ true
slip_of_rules slip.FormKind e = cc
slip_of_rules slip.SetLater e = cc
slip_of_rules _ e = refl

code_of_rules : (w : Warning) → IsOfRules (warning_code w) → is_of_rules w ≡ true
code_of_rules warning.CommentGoesOn e = cc
code_of_rules warning.DanglingElse e = cc
code_of_rules warning.FormValues e = cc
code_of_rules warning.HidesExternal e = cc
code_of_rules warning.NearMain e = cc
code_of_rules warning.NoMain e = cc
code_of_rules warning.OctalNumber e = cc
code_of_rules warning.Unset e = cc
code_of_rules warning.UnsetVector e = cc
code_of_rules (warning.Slip s) e = slip_of_rules s e
code_of_rules _ e = refl

module _ (Due : TokenPlace → Warning → Type 0) (source : List ℕ) (cautions : List Caution) where
  abbrev Is : TokenPlace → Warning → ℕ × Warning → Type 0
  Is at w t = (t.0 ≡ at.start) × (t.1 ≡ w)

  abbrev Coded : TokenPlace → Warning → List ℕ × List ℕ → Type 0
  Coded at w t = (t.0 ≡ take at.start source) × (t.1 ≡ warning_code w)

  abbrev IsEarly : TokenPlace → ℕ × Warning → Type 0
  IsEarly at t = t.0 ≤ at.start

  abbrev StandsEarly : TokenPlace → List ℕ × List ℕ → Type 0
  StandsEarly at t = length t.0 ≤ at.start

  coded : (at : TokenPlace) (w : Warning) (c : Caution) → Is at w (entry c) → Coded at w (caution_at source c)
  coded at w c (p, e) = (ap (λ n. take n source) p, ap warning_code e)

  early : (at : TokenPlace) → All (IsEarly at) (map entry cautions) → All (StandsEarly at) (map (caution_at source) cautions)
  early at h = All-map (StandsEarly at) (caution_at source) cautions one
    where
      one : (k : ℕ) (d : Caution) → k < length cautions → length (take (get_or cautions k d).place.start source) ≤ at.start
      one k d lt =
          let c = get_or cautions k d in
          let is : get_or (map entry cautions) k (entry d) ≡ entry c = get_or-map entry cautions k d (entry d) lt in
          let le : c.place.start ≤ at.start = subst (IsEarly at) is (h k (entry d) (omega (arith, lt, length-map cautions entry))) in
          omega (arith, le, length-take c.place.start source)

  told : (at : TokenPlace) (w : Warning) (n : ℕ) → Any (Is at w) (map entry cautions) ⊎ ((n ≤ length (map entry cautions)) × All (IsEarly at) (map entry cautions))
      → Any (Coded at w) (map (caution_at source) cautions) ⊎ ((n ≤ length (map (caution_at source) cautions)) × All (StandsEarly at) (map (caution_at source) cautions))
  told at w n (inl a) =
      let b = any_of_map (Is at w) entry cautions a in
      inl (any_to_map (Coded at w) (caution_at source) cautions (b.0, b.1, b.2, b.3, coded at w b.1 b.4))
  told at w n (inr h) = inr (omega (arith, h.0, length-map cautions entry, length-map cautions (caution_at source)), early at h.1)

  pub codes_told : TellsOfTokens Due cautions
      → TellsDue (λ at. take at.start source) warning_code (λ before at. length before ≤ at.start) IsOfRules Due (map (caution_at source) cautions)
  codes_told h = record {
    all = λ at w d. told at w _ (h.all at w d);
    meant = All-map
        (λ t. IsOfRules t.1 → (at : TokenPlace) × (w : Warning) × Due at w × (t.0 ≡ take at.start source) × (t.1 ≡ warning_code w))
        (caution_at source) cautions (λ k d lt only. meant k d lt only);
  }
    where
      meant : (k : ℕ) (d : Caution) → k < length cautions → IsOfRules (warning_code (get_or cautions k d).warning)
          → (at : TokenPlace) × (w : Warning) × Due at w × (take (get_or cautions k d).place.start source ≡ take at.start source) × (warning_code (get_or cautions k d).warning ≡ warning_code w)
      meant k d lt only =
          let c = get_or cautions k d in
          let is : get_or (map entry cautions) k (entry d) ≡ entry c = get_or-map entry cautions k d (entry d) lt in
          let m = subst (λ (t : ℕ × Warning). is_of_rules t.1 ≡ true → (at : TokenPlace) × (w : Warning) × Due at w × (t.0 ≡ at.start) × (t.1 ≡ w)) is
          (h.meant k (entry d) (omega (arith, lt, length-map cautions entry))) (code_of_rules c.warning only) in
          (m.0, m.1, m.2, ap (λ n. take n source) m.3, ap warning_code m.4)

pub not_done : (edition : Edition) (files : Files) (source : List ℕ) (v : Verdict) (line : Kept) (d : Diagnostic) → v ≡ verdict.Faulty line d
    → (found : List Finding) → AreWarned edition files source (status_told v) found
not_done edition files source v line d is found done = absurd (let f : 1 ≡ 0 = sym (ap status_told is) ∙ done in cc)

pub not_loaded : (edition : Edition) (files : Files) (source : List ℕ) (v : Verdict) (f : LoadFault) → v ≡ verdict.Unloaded f
    → (found : List Finding) → AreWarned edition files source (status_told v) found
not_loaded edition files source v f is found done = absurd (let g : 132 ≡ 0 = sym (ap status_told is) ∙ done in cc)

-- the findings of one caution more
pub caution_more : (source : List ℕ) (cautions : List Caution) (i : ℕ) (c d : Caution) (f : Finding) (old new : List Finding) → i < length cautions → c ≡ get_or cautions i d
    → f.place.start ≡ c.place.start → f.matter ≡ matter.Warning c.warning → new ≡ old ++ f ∷ [] → map (found_at source) old ≡ map (caution_at source) (take i cautions)
    → map (found_at source) new ≡ map (caution_at source) (take (i + 1) cautions)
caution_more source cautions i c d f old new lt here place is more h =
    let same : found_at source f ≡ caution_at source (get_or cautions i d) =
    ap (λ n. (take n source, matter_code f.matter)) place ∙ ap (λ m. (take c.place.start source, matter_code m)) is ∙ ap (caution_at source) here in
    let first = map (caution_at source) (take i cautions) in
    ap (map (found_at source)) more ∙ map-append (found_at source) old (f ∷ []) ∙ ap (λ l. l ++ found_at source f ∷ []) h ∙ ap (λ x. first ++ x ∷ []) same
    ∙ sym (ap (map (caution_at source)) (take_more cautions i d lt) ∙ map-append (caution_at source) (take i cautions) (get_or cautions i d ∷ []))

pub all_warned : (edition : Edition) (files : Files) (source : List ℕ) (cautions slice : List Caution) (found : List Finding) → Warns edition files source cautions → slice ≡ cautions
    → map (found_at source) found ≡ map (caution_at source) slice → TellsWarnings edition files source (map (found_at source) found)
all_warned edition files source cautions slice found warns same is ds formed spelled =
    let w = warns ds formed spelled in
    let Due = IsDueBy edition files source w.0 in (
      w.0,
      w.1,
      subst (TellsDue (λ at. take at.start source) warning_code (λ before at. length before ≤ at.start) IsOfRules Due) (sym (is ∙ ap (map (caution_at source)) same)) (codes_told Due source cautions w.2),
    )
