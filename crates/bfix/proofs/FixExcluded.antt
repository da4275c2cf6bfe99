-- What the contract of a fix excludes.
use Rattle.std.proofs.Common.{◌≡◌, ◌∙◌, ◌<◌, ℕ, zero, suc, Bool, true, false, IsTrue, List, [], ◌∷◌, ◌++◌, ap, arith, length, map}
use Rattle.std.proofs.Common.{inl, inr, refl, subst, sym}
use Rattle.std.specs.Prelude.{if◌then◌else◌}
use Rattle.std.specs.Str.{bytes_eq}
use Rattle.std.proofs.lemmas.Slice.Eq.{bytes_eq-Decides}
use Rattle.bword.specs.ByteEnds.{Outgoing, Writes}
use Rattle.bword.specs.declared.edition.Edition.{Edition}
use Rattle.bword.specs.declared.ends.EndFault.{EndFault}
use Rattle.bword.specs.declared.ends.EndFault.TheVariants as end_fault
use Rattle.blang.specs.Code.{code_of}
use Rattle.blang.specs.Compiles.{status_of}
use Rattle.blang.specs.Reports.{Reported}
use Rattle.blang.specs.declared.status.TheConstants.{DEVICE, DONE}
use Rattle.bgrammar.proofs.GoesLaws.{each_source_comes}
use Rattle.bsources.specs.Files.{Files}
use Rattle.bcheck.specs.Checks.{EachOutcome, EditParts, Mends, outcome_of}
use Rattle.bcheck.specs.Right.{IsRight}
use Rattle.bfix.proofs.LeftSteps.{told_left}
use Rattle.bfix.specs.Fixes as fixes
use Rattle.bfix.specs.Fixes.{Changes, Fixed, Fixes, Lead, all_lines}
use Rattle.bfix.specs.OwnText.{TellsAfter, own_in, rest_in}
use Rattle.bfix.specs.FixExcluded.{WrongFixes}
use Rattle.bfix.specs.Keeping.{are_among, kept_of}

-- by the test that comes first
among_when : (b : Bool) (t o : List ℕ) (ts os : List (List ℕ)) → bytes_eq t o ≡ b
    → are_among (t ∷ ts) (o ∷ os) ≡ (if b then are_among ts os else are_among (t ∷ ts) os)
among_when b t o ts os e = ap (λ (c : Bool). if c then are_among ts os else are_among (t ∷ ts) os) e

no_way : {A : Type 0} → false ≡ true → A
no_way e = cc

module _ (os : List (List ℕ)) (fewer : (t : List ℕ) (ts : List (List ℕ)) → are_among (t ∷ ts) os ≡ true → are_among ts os ≡ true) where
  among_more : (ts : List (List ℕ)) (o : List ℕ) → are_among ts os ≡ true → are_among ts (o ∷ os) ≡ true
  among_more [] o h = refl
  among_more (t ∷ ts) o h = by (bytes_eq t o) refl
    where
      by : (b : Bool) → bytes_eq t o ≡ b → are_among (t ∷ ts) (o ∷ os) ≡ true
      by true e = among_when true t o ts os e ∙ fewer t ts h
      by false e = among_when false t o ts os e ∙ h

among_fewer : (os : List (List ℕ)) (t : List ℕ) (ts : List (List ℕ)) → are_among (t ∷ ts) os ≡ true
    → are_among ts os ≡ true
among_fewer [] t ts h = no_way h
among_fewer (o ∷ os) t ts h =
    among_more os (λ x xs k. among_fewer os x xs k) ts o (by (λ k. among_fewer os t ts k) (bytes_eq t o) refl)
  where
    by : (are_among (t ∷ ts) os ≡ true → are_among ts os ≡ true) → (b : Bool) → bytes_eq t o ≡ b
        → are_among ts os ≡ true
    by again true e = sym (among_when true t o ts os e) ∙ h
    by again false e = again (sym (among_when false t o ts os e) ∙ h)

among_same : (ts : List (List ℕ)) → are_among ts ts ≡ true
among_same [] = refl
among_same (t ∷ ts) = among_when true t t ts ts ((bytes_eq-Decides t t).1 refl) ∙ among_same ts

among_all : (xs bs cs : List (List ℕ)) → are_among xs bs ≡ true → are_among bs cs ≡ true → are_among xs cs ≡ true
among_all [] bs cs h k = refl
among_all (a ∷ xs) [] cs h k = no_way h
among_all (a ∷ xs) (b ∷ bs) [] h k = no_way k
among_all (a ∷ xs) (b ∷ bs) (c ∷ cs) h k =
    by (λ p q. among_all xs bs cs p q) (λ p q. among_all (a ∷ xs) bs cs p q) (λ q. among_all (a ∷ xs) (b ∷ bs) cs h q)
    (bytes_eq b c) refl (bytes_eq a b) refl (bytes_eq a c) refl
  where
    by : (are_among xs bs ≡ true → are_among bs cs ≡ true → are_among xs cs ≡ true)
        → (are_among (a ∷ xs) bs ≡ true → are_among bs cs ≡ true → are_among (a ∷ xs) cs ≡ true)
        → (are_among (b ∷ bs) cs ≡ true → are_among (a ∷ xs) cs ≡ true)
        → (p : Bool) → bytes_eq b c ≡ p → (q : Bool) → bytes_eq a b ≡ q → (r : Bool) → bytes_eq a c ≡ r
        → are_among (a ∷ xs) (c ∷ cs) ≡ true
    by both first all true e true f r g =
        let same : bytes_eq a c ≡ true =
        (bytes_eq-Decides a c).1 ((bytes_eq-Decides a b).0 f ∙ (bytes_eq-Decides b c).0 e) in
        among_when true a c xs cs same
        ∙ both (sym (among_when true a b xs bs f) ∙ h) (sym (among_when true b c bs cs e) ∙ k)
    by both first all true e false f r g =
        let other : bytes_eq a c ≡ false = ap (bytes_eq a) (sym ((bytes_eq-Decides b c).0 e)) ∙ f in
        among_when false a c xs cs other
        ∙ first (sym (among_when false a b xs bs f) ∙ h) (sym (among_when true b c bs cs e) ∙ k)
    by both first all false e q f true g =
        among_when true a c xs cs g ∙ among_fewer cs a xs (all (sym (among_when false b c bs cs e) ∙ k))
    by both first all false e q f false g = among_when false a c xs cs g ∙ all (sym (among_when false b c bs cs e) ∙ k)

module _ (edition : Edition) (files : Files) (rest : List ℕ) where
  -- all changes keep what each keeps
  kept_by : (old : List ℕ) (lines : List (List ℕ)) (new : List ℕ) → Lead edition files rest old lines new
      → IsTrue (are_among (kept_of edition (old ++ rest)) (kept_of edition (new ++ rest)))
  kept_by old [] new h =
      subst (λ t. IsTrue (are_among (kept_of edition (old ++ rest)) (kept_of edition (t ++ rest)))) (sym h)
      (among_same (kept_of edition (old ++ rest)))
  kept_by old (line ∷ lines) new h =
      let c = h.1 in
      among_all (kept_of edition (old ++ rest)) (kept_of edition (h.0 ++ rest)) (kept_of edition (new ++ rest)) c.keeps
      (kept_by h.0 lines new h.3)

  -- what no edit mends stays
  stays_by : (old : List ℕ) (lines : List (List ℕ)) (new : List ℕ) → Lead edition files rest old lines new
      → ((e : EditParts (old ++ rest)) → EachOutcome edition (old ++ rest) (λ o. Mends o e) → ⊥) → new ≡ old
  stays_by old [] new h none = h
  stays_by old (line ∷ lines) new h none = let c = h.1 in absurd (none c.edit c.mends)

module _ (edition : Edition) (files : Files) (rest : List ℕ) where
  -- what is right stays
  right_by : (old : List ℕ) (lines : List (List ℕ)) (new : List ℕ) → Lead edition files rest old lines new
      → IsRight edition files (old ++ rest) → new ≡ old
  right_by old [] new h right = h
  right_by old (line ∷ lines) new h right = let c = h.1 in absurd (c.wrong right)

-- a status below those of refused writes is that of a text that was written
refused_status : (fault : EndFault) (result : ℕ) → result ≡ status_of fault → 132 < result
refused_status end_fault.Device result e = let is : result ≡ 133 = e in omega (arith, is)
refused_status end_fault.Memory result e = let is : result ≡ 134 = e in omega (arith, is)

told_whole : (told : List ℕ) (status : ℕ) (line after : Outgoing) (result : ℕ) → result < DEVICE
    → Reported told status line after result → Writes line told after × (result ≡ status)
told_whole told status line after result less (inl w) = w
told_whole told status line after result less (inr r) =
    let more = refused_status r.fault result r.status in
    let below : result < 133 = less in absurd (omega (arith, more, below))

text_written : (text : List ℕ) (out after : Outgoing) (written : ℕ) (told : List ℕ) (status : ℕ)
    → (line line_after : Outgoing) (result : ℕ) → result < DEVICE → Reported text DONE out after written
    → TellsAfter written told status line line_after result
    → Writes out text after × Writes line told line_after × (result ≡ status)
text_written text out after zero told status line line_after result less (inl w) t =
    let whole = told_whole told status line line_after result less t in (w.0, whole.0, whole.1)
text_written text out after zero told status line line_after result less (inr r) t =
    let more = refused_status r.fault 0 r.status in absurd (omega (arith, more))
text_written text out after (suc n) told status line line_after result less (inl w) t =
    let no : suc n ≡ 0 = w.1 in absurd (omega (arith, no))
text_written text out after (suc n) told status line line_after result less (inr r) t =
    let more = refused_status r.fault (suc n) r.status in
    let is : result ≡ suc n = t.1 in
    let below : result < 133 = less in absurd (omega (arith, more, is, below))

pub wrong_fixes : WrongFixes
wrong_fixes f (fixes.fixed text t written w tells finished) less =
    let some = each_source_comes [] f.edition 1 (text ++ rest_in f) in (
      text,
      (text_written text f.out f.out_after written _ _ f.line f.line_after f.status less w (tells some.0 some.1).2).0,
      record {
        kept = kept_by f.edition f.files (rest_in f) (own_in f) t.lines text t.lead;
        small = t.small;
        unmended = λ none. stays_by f.edition f.files (rest_in f) (own_in f) t.lines text t.lead none;
        right = λ right. right_by f.edition f.files (rest_in f) (own_in f) t.lines text t.lead right;
        finished = (length t.lines, finished);
        status =
            λ r g. (text_written text f.out f.out_after written _ _ f.line f.line_after f.status less w (tells r g).2).2;
        left = λ r g.
            let it = tells r g in
            let whole = text_written text f.out f.out_after written _ _ f.line f.line_after f.status less w it.2 in
            let left = told_left t.lines (outcome_of f.edition (text ++ rest_in f) r.stop (map code_of g.definitions)) it.0 f.line
            f.line_after whole.1 in
            (it.0, it.1, left.0, left.1);
      },
    )
wrong_fixes f (fixes.no_memory same quiet is) less =
    let at : f.status ≡ 134 = is in let below : f.status < 133 = less in absurd (omega (arith, at, below))
