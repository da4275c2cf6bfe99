-- What was told so far of what is due of tokens.
use Rattle.std.proofs.Common.{◌≡◌, ◌∙◌, ℕ, ◌+◌, ◌<◌, ◌≤◌, Bool, true, false, List, [], ◌∷◌, ◌++◌, Option, Some, None, ◌⊎◌, ap, append-nil, append_assoc, arith, inl, inr, length, map, refl, subst, sym}
use Rattle.std.proofs.lemmas.Bool.Decides.{nat_tests}
use Rattle.std.proofs.lemmas.List.{get_or_append_left, length-append, length-map, map-append}
use Rattle.std.proofs.lemmas.List.Elements.{All-append, All-cons, All-map, All-nil, All-weaker}
use Rattle.std.proofs.lemmas.List.Quantifiers.{Any-push}
use Rattle.std.proofs.lemmas.Option.{slice_get_within}
use Rattle.std.specs.Prelude.{◌==◌, if◌then◌else◌, nat_lt, slice_get}
use Rattle.std.specs.List.{All, Any}
use Rattle.bsources.specs.Files.{Files, Line, beyond_first}
use Rattle.bmatch.specs.declared.noticing.Notice.{Notice}
use Rattle.blint.specs.Noticed.{first_notice, notice_at, warning_of}
use Rattle.blint.specs.declared.cautions.Caution.{Caution}
use Rattle.blint.specs.declared.telling.TheConstants.{MOST_CAUTIONS}
use Rattle.bmatch.specs.declared.tree.TokenPlace.{TokenPlace}
use Rattle.blint.specs.declared.warnings.Warning.{Warning}
use Rattle.blint.specs.Told.{AreRising, TellsOne, TellsOthers, due, with_caution}
use Rattle.blint.specs.Warns.{IsDue, TellsOf, entry, is_of_rules}

abbrev Entry : Type 0
Entry = ℕ × Warning

abbrev Is : TokenPlace → Warning → Entry → Type 0
Is at w t = (t.0 ≡ at.start) × (t.1 ≡ w)

abbrev IsEarly : TokenPlace → Entry → Type 0
IsEarly at t = t.0 ≤ at.start

abbrev Told : TokenPlace → Warning → List Caution → Type 0
Told at w cautions =
    Any (Is at w) (map entry cautions) ⊎ ((MOST_CAUTIONS ≤ length (map entry cautions)) × All (IsEarly at) (map entry cautions))

any_before : {A : Type 0} (P : A → Type 0) (xs ys : List A) → Any P xs → Any P (xs ++ ys)
any_before P xs ys a = (a.0, a.1, omega (arith, a.2, length-append xs ys), get_or_append_left xs ys a.1 a.0 a.2 ∙ a.3, a.4)

still_any : (at : TokenPlace) (w : Warning) (old more : List Caution) → Any (Is at w) (map entry old) → Any (Is at w) (map entry (old ++ more))
still_any at w old more a = subst (Any (Is at w)) (sym (map-append entry old more)) (any_before (Is at w) (map entry old) (map entry more) a)

same_number : (m n : ℕ) → (m == n) ≡ true → m ≡ n
same_number m n e = grind (arith, nat_tests)

with_one : (P : List Caution → Type 0) (c : Caution) (old : List Caution) → (length old < MOST_CAUTIONS → P (old ++ c ∷ [])) → (MOST_CAUTIONS ≤ length old → P old) → P (with_caution c old)
with_one P c old f g = by (nat_lt (length old) MOST_CAUTIONS) refl
  where
    by : (b : Bool) → nat_lt (length old) MOST_CAUTIONS ≡ b → P (if b then old ++ c ∷ [] else old)
    by true e = f (grind (arith, nat_tests))
    by false e = g (grind (arith, nat_tests))

just_told : (at : TokenPlace) (w : Warning) (c : Caution) (old : List Caution) → c.place.start ≡ at.start → c.warning ≡ w → All (IsEarly at) (map entry old) → Told at w (with_caution c old)
just_told at w c old s e early =
    with_one (Told at w) c old
    (λ lt. inl (subst (Any (Is at w)) (sym (map-append entry old (c ∷ []))) (Any-push (Is at w) (map entry old) (entry c) (s, e))))
    (λ full. inr (omega (arith, full, length-map old entry), early))

told_with : (at : TokenPlace) (w : Warning) (c : Caution) (old : List Caution) → Told at w old → Told at w (with_caution c old)
told_with at w c old (inl a) = with_one (Told at w) c old (λ lt. inl (still_any at w old (c ∷ []) a)) (λ full. inl a)
told_with at w c old (inr h) = with_one (Told at w) c old (λ lt. absurd (omega (arith, lt, h.0, length-map old entry))) (λ full. inr h)

told_others : (at : TokenPlace) (w : Warning) (start : ℕ) (old new : List Caution) → TellsOthers start old new → Told at w old → Told at w new
told_others at w start old new h (inl a) = subst (Told at w) (sym h.1) (inl (still_any at w old h.0 a))
told_others at w start old new h (inr f) =
    let none : h.0 ≡ [] = h.2 (omega (arith, f.0, length-map old entry)) in
    subst (Told at w) (sym (h.1 ∙ ap (λ l. old ++ l) none ∙ append-nil old)) (inr f)

abbrev IsOther : ℕ → Caution → Type 0
IsOther start c = (is_of_rules c.warning ≡ false) × (c.place.start ≤ start)

pub no_others : (start : ℕ) (old : List Caution) → TellsOthers start old old
no_others start old = ([], sym (append-nil old), λ full. refl, All-nil (IsOther start))

pub one_other : (c : Caution) (old new : List Caution) → is_of_rules c.warning ≡ false → new ≡ with_caution c old → TellsOthers c.place.start old new
one_other c old new e is =
    subst (TellsOthers c.place.start old) (sym is)
    (with_one (TellsOthers c.place.start old) c old
    (λ lt. (c ∷ [], refl, λ full. absurd (omega (arith, lt, full)), All-cons (IsOther c.place.start) c [] (e, omega arith) (All-nil (IsOther c.place.start))))
    (λ full. no_others c.place.start old))

pub others_after : (start at : ℕ) (first old new : List Caution) → at ≤ start → TellsOthers start first old → TellsOthers at old new → TellsOthers start first new
others_after start at first old new le a b = (
  a.0 ++ b.0,
  b.1 ∙ ap (λ l. l ++ b.0) a.1 ∙ append_assoc first a.0 b.0,
  λ full. ap (λ l. l ++ b.0) (a.2 full) ∙ b.2 (omega (arith, full, ap length a.1, length-append first a.0)),
  All-append (IsOther start) a.0 b.0 a.3 (All-weaker (IsOther at) (IsOther start) (λ c h. (h.0, omega (arith, h.1, le))) b.0 b.3),
)

module _ (files : Files) (places : List TokenPlace) (notices : List Notice) where
  abbrev Due : TokenPlace → Warning → Type 0
  Due = IsDue files places notices

  abbrev Meant : Entry → Type 0
  Meant t = is_of_rules t.1 ≡ true → (at : TokenPlace) × (w : Warning) × Due at w × (t.0 ≡ at.start) × (t.1 ≡ w)

  -- what is due of the first tokens is told
  pub record Below (n : ℕ) (cautions : List Caution) : Type 0 where
    pub all : (at : TokenPlace) (w : Warning) (d : Due at w) → d.token < n → Told at w cautions
    pub meant : All Meant (map entry cautions)

  -- what was told stands before the tokens to come
  abbrev pub AreEarly : (n : ℕ) → List Caution → Type 0
  AreEarly n cautions = (k : ℕ) (at : TokenPlace) → n ≤ k → slice_get places k ≡ Some at → All (IsEarly at) (map entry cautions)

  pub below_none : Below 0 []
  below_none = record { all = λ at w d lt. absurd (omega (arith, lt)); meant = All-nil Meant }

  pub early_none : AreEarly 0 []
  early_none k at le p = All-nil (IsEarly at)

  pub below_others : (n start : ℕ) (old new : List Caution) → TellsOthers start old new → Below n old → Below n new
  below_others n start old new h b = record {
    all = λ at w d lt. told_others at w start old new h (b.all at w d lt);
    meant = subst (All Meant) (sym (ap (map entry) h.1 ∙ map-append entry old h.0))
        (All-append Meant (map entry old) (map entry h.0) b.meant
        (All-map Meant entry h.0 (λ k d lt only. absurd (let f : true ≡ false = sym only ∙ (h.3 k d lt).0 in cc))));
  }

  pub early_others : (n : ℕ) (at : TokenPlace) (old new : List Caution) → AreRising places → slice_get places n ≡ Some at → TellsOthers at.start old new → AreEarly n old → AreEarly n new
  early_others n at old new rising here h e k a le p =
      subst (All (IsEarly a)) (sym (ap (map entry) h.1 ∙ map-append entry old h.0))
      (All-append (IsEarly a) (map entry old) (map entry h.0) (e k a le p)
      (All-map (IsEarly a) entry h.0 (λ j d lt. let f = (h.3 j d lt).1 in let g = rising n k at a le here p in omega (arith, f, g))))

  -- of one token more nothing is due
  below_silent : (n : ℕ) (at : TokenPlace) (cautions : List Caution) → slice_get places n ≡ Some at → due (beyond_first files at.line) (warning_of (first_notice notices n)) ≡ None → Below n cautions → Below (n + 1) cautions
  below_silent n at cautions here none b = record {
    all = λ a w d lt. by a w d lt;
    meant = b.meant;
  }
    where
      by : (a : TokenPlace) (w : Warning) (d : Due a w) → d.token < n + 1 → Told a w cautions
      by a w d lt = on (d.token == n) refl
        where
          on : (t : Bool) → (d.token == n) ≡ t → Told a w cautions
          on false g = b.all a w d (grind (arith, nat_tests))
          on true g =
              let same : d.token ≡ n = same_number d.token n g in
              let there : Some a ≡ Some at = sym d.place ∙ ap (slice_get places) same ∙ here in
              let place : a ≡ at = cc in
              let is : due (beyond_first files at.line) (warning_of (first_notice notices n)) ≡ Some w =
              ap (λ (o : Option Line). due o (warning_of (first_notice notices n))) (ap (λ (x : TokenPlace). beyond_first files x.line) (sym place) ∙ d.own)
              ∙ ap (λ (j : ℕ). warning_of (first_notice notices j)) (sym same) ∙ d.is in
              absurd (let g : None ≡ Some w = sym none ∙ is in cc)

  due_own : {X : Type 0} (o : Option X) (found : Option Warning) (w : Warning) → due o found ≡ Some w → (o ≡ None) × (found ≡ Some w)
  due_own None found w e = (refl, e)
  due_own (Some x) found w e = cc

  below_one : (n : ℕ) (at : TokenPlace) (w : Warning) (old new : List Caution) → slice_get places n ≡ Some at → due (beyond_first files at.line) (warning_of (first_notice notices n)) ≡ Some w
      → TellsOne (Some w) at old new → AreEarly n old → Below n old → Below (n + 1) new
  below_one n at w old new here is h early b = record {
    all = by;
    meant = subst (λ l. All Meant (map entry l)) (sym h.1)
        (with_one (λ l. All Meant (map entry l)) h.0 old
        (λ lt. subst (All Meant) (sym (map-append entry old (h.0 ∷ [])))
        (All-append Meant (map entry old) (map entry (h.0 ∷ [])) b.meant (All-cons Meant (entry h.0) [] (λ only. (at, w, this, h.2, h.3)) (All-nil Meant))))
        (λ full. b.meant));
  }
    where
      this : Due at w
      this =
          let own = due_own (beyond_first files at.line) (warning_of (first_notice notices n)) w is in
          record { token = n; place = here; own = own.0; is = own.1 }

      by : (a : TokenPlace) (v : Warning) (d : Due a v) → d.token < n + 1 → Told a v new
      by a v d lt = on (d.token == n) refl
        where
          on : (t : Bool) → (d.token == n) ≡ t → Told a v new
          on false g = subst (Told a v) (sym h.1) (told_with a v h.0 old (b.all a v d (grind (arith, nat_tests))))
          on true g =
              let same : d.token ≡ n = same_number d.token n g in
              let there : Some a ≡ Some at = sym d.place ∙ ap (slice_get places) same ∙ here in
              let place : a ≡ at = cc in
              let both : Some v ≡ Some w = sym d.is ∙ ap (λ (j : ℕ). warning_of (first_notice notices j)) same ∙ this.is in
              let warning : v ≡ w = cc in
              subst (λ (x : TokenPlace). Told x v new) (sym place)
              (subst (λ (x : Warning). Told at x new) (sym warning)
              (subst (Told at w) (sym h.1) (just_told at w h.0 old h.2 h.3 (early n at (omega arith) here))))

  pub below_due : (n : ℕ) (at : TokenPlace) (o found : Option Warning) (r : Option Notice) (old new : List Caution) → slice_get places n ≡ Some at → o ≡ due (beyond_first files at.line) found
      → found ≡ warning_of r → r ≡ first_notice notices n → TellsOne o at old new → AreEarly n old → Below n old → Below (n + 1) new
  below_due n at None found r old new here is same speaks h early b =
      subst (Below (n + 1)) (sym h)
      (below_silent n at old here (sym (is ∙ ap (due (beyond_first files at.line)) (same ∙ ap warning_of speaks))) b)
  below_due n at (Some w) found r old new here is same speaks h early b =
      below_one n at w old new here (sym (is ∙ ap (due (beyond_first files at.line)) (same ∙ ap warning_of speaks))) h early b

  pub early_due : (n : ℕ) (at : TokenPlace) (o : Option Warning) (old new : List Caution) → AreRising places → slice_get places n ≡ Some at → TellsOne o at old new → AreEarly n old → AreEarly (n + 1) new
  early_due n at None old new rising here h e k a le p = subst (λ l. All (IsEarly a) (map entry l)) (sym h) (e k a (omega (arith, le)) p)
  early_due n at (Some w) old new rising here h e k a le p =
      let before = e k a (omega (arith, le)) p in
      let g = rising n k at a (omega (arith, le)) here p in
      subst (λ l. All (IsEarly a) (map entry l)) (sym h.1)
      (with_one (λ l. All (IsEarly a) (map entry l)) h.0 old
      (λ lt. subst (All (IsEarly a)) (sym (map-append entry old (h.0 ∷ [])))
      (All-append (IsEarly a) (map entry old) (map entry (h.0 ∷ [])) before (All-cons (IsEarly a) (entry h.0) [] (omega (arith, h.2, g)) (All-nil (IsEarly a)))))
      (λ full. before))

  -- all is told of the first tokens, and nothing after them
  abbrev pub ToldUpTo : (n : ℕ) → List Caution → Type 0
  ToldUpTo n cautions = Below n cautions × AreEarly n cautions

  pub up_to_none : ToldUpTo 0 []
  up_to_none = (below_none, early_none)

  pub up_to_more : (n : ℕ) (at : TokenPlace) (o found : Option Warning) (r : Option Notice) (old middle new : List Caution) → AreRising places → slice_get places n ≡ Some at → o ≡ due (beyond_first files at.line) found
      → found ≡ warning_of r → r ≡ first_notice notices n → TellsOthers at.start old middle → TellsOne o at middle new → ToldUpTo n old → ToldUpTo (n + 1) new
  up_to_more n at o found r old middle new rising here is same speaks others one h =
      let early = early_others n at old middle rising here others h.1 in (
        below_due n at o found r middle new here is same speaks one early (below_others n at.start old middle others h.0),
        early_due n at o middle new rising here one early,
      )

  pub all_below : (n start : ℕ) (old cautions : List Caution) → length places ≤ n → TellsOthers start old cautions → ToldUpTo n old → TellsOf Due cautions
  all_below n start old cautions long others h =
      let b = below_others n start old cautions others h.0 in
      record {
        all = λ at w d. b.all at w d (omega (arith, slice_get_within places d.token at d.place, long));
        meant = b.meant;
      }
