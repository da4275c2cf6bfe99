-- A `;` that is all that a text lacks.
use Rattle.std.proofs.Common.{◌≡◌, ◌∙◌, ◌+◌, ◌*◌, ◌<◌, ◌≤◌, ℕ, false, true, IsTrue, List, [], ◌∷◌, ◌++◌, None, Option}
use Rattle.std.proofs.Common.{Some, ap, append_assoc, arith, drop, inl, length, map, refl, subst, sym, take}
use Rattle.std.specs.Prelude.{is_some, min}
use Rattle.std.specs.List.{All}
use Rattle.std.proofs.lemmas.List.{drop-append-le, length-append, take-append-le}
use Rattle.bword.specs.declared.edition.Edition.{Edition}
use Rattle.blang.specs.declared.run.LoadFault.{LoadFault}
use Rattle.blang.specs.declared.status.TheConstants.{DONE}
use Rattle.blang.specs.declared.token.Diagnostic.{Diagnostic}
use Rattle.bgrammar.proofs.GoesLaws.{each_source_comes}
use Rattle.bsources.specs.Files.{Files}
use Rattle.bcheck.specs.Checks.{EachOutcome, IsLater, outcome_status, told_first}
use Rattle.bcheck.specs.Findings.{Improves}
use Rattle.bcheck.specs.Right.{IsRight}
use Rattle.bcheck.proofs.RightSteps.{no_stop}
use Rattle.bcheck.specs.Boundaries.{fault_boundaries, with_semicolon}
use Rattle.bcheck.specs.Spares.{spares_at}
use Rattle.bfix.specs.Due.{IsDue, IsSettled, NoneDue, Setting}
use Rattle.bfix.specs.Keeping.{are_among, kept_of}
use Rattle.bfix.specs.declared.due.TheConstants.{TRIED_BYTES}

no_way : {A : Type 0} → false ≡ true → A
no_way e = cc

-- it is better than any other source
pub right_improves : (edition : Edition) (source new : List ℕ) → EachOutcome edition new (λ o. outcome_status o ≡ DONE)
    → Improves edition source new
right_improves edition source new done =
    λ r g n h. (
      inl (subst (λ s. IsLater s r.stop) (sym (no_stop n.stop _ (done n h))) tt),
      λ e. done n h,
      λ e. inl (done n h),
    )

-- where a place is on the line of a fault, the source isn't right
pub wrong_of : (edition : Edition) (files : Files) (source places : List ℕ)
    → EachOutcome edition source (λ o. places ≡ fault_boundaries edition source o.stop) → 0 < length places
    → IsRight edition files source → ⊥
wrong_of edition files source places boundaries some right =
    let it = each_source_comes [] edition 1 source in
    let none : length places ≡ 0 =
    ap length
    (boundaries it.0 it.1 ∙ ap (fault_boundaries edition source) (no_stop it.0.stop _ (right.done it.0 it.1))) in
    omega (arith, none, some)

-- more than a limit, though counted no farther than it can be
pub too_many : (m p most limit : ℕ) → m ≡ min p most → limit < m → p ≤ limit → ⊥
too_many m p most limit e h k = omega (arith, e, h, k)

-- a text with a `;` at a place
module _ (s : Setting) (old : List ℕ) (place : ℕ) (text whole new : List ℕ) (is : text ≡ take place old ++ (59 ∷ drop (place + 0) old)) (w : whole ≡ old ++ s.rest) (n : new ≡ text ++ s.rest) where
  text_is : text ≡ with_semicolon old place
  text_is =
      let same : place + 0 ≡ place = omega arith in is ∙ ap (λ k. take place old ++ 59 ∷ drop k old) same

  new_is : new ≡ with_semicolon old place ++ s.rest
  new_is = n ∙ ap (λ t. t ++ s.rest) text_is

  pub too_large : s.most < length text → IsDue s old place → ⊥
  too_large h d =
      let small = d.small in
      let long : length text ≡ length (with_semicolon old place) = ap length text_is in omega (arith, h, small, long)

  pub loses : are_among (kept_of s.edition whole) (kept_of s.edition new) ≡ false → IsDue s old place → ⊥
  loses h d =
      let kept : are_among (kept_of s.edition (old ++ s.rest)) (kept_of s.edition (with_semicolon old place ++ s.rest)) ≡ true =
      d.keeps in
      no_way
      (sym h ∙ ap (λ x. are_among (kept_of s.edition x) (kept_of s.edition new)) w
      ∙ ap (λ x. are_among (kept_of s.edition (old ++ s.rest)) (kept_of s.edition x)) new_is ∙ kept)

  pub is_wrong : (IsRight s.edition s.files new → ⊥) → IsDue s old place → ⊥
  is_wrong h d = h (subst (λ x. IsRight s.edition s.files x) (sym new_is) d.right)

  pub is_spared : IsDue s old place → spares_at s.edition whole place 0 (59 ∷ []) ≡ true
  is_spared d = ap (λ x. spares_at s.edition x place 0 (59 ∷ [])) w ∙ d.spared

  pub in_whole : place ≤ length old → place ≤ length whole
  in_whole h =
      let long : length whole ≡ length old + length s.rest = ap length w ∙ length-append old s.rest in
      omega (arith, h, long)

  pub improves_whole : place ≤ length old → EachOutcome s.edition new (λ o. outcome_status o ≡ DONE)
      → Improves s.edition whole (with_semicolon whole place)
  improves_whole h done =
      let rest = s.rest in
      let same : with_semicolon whole place ≡ new =
      ap (λ x. with_semicolon x place) w
      ∙ ap (λ x. x ++ 59 ∷ drop place (old ++ rest)) (take-append-le place old rest h)
      ∙ ap (λ x. take place old ++ 59 ∷ x) (drop-append-le place old rest h)
      ∙ sym (append_assoc (take place old) (59 ∷ drop place old) rest) ∙ sym new_is in
      subst (λ x. Improves s.edition whole x) (sym same) (right_improves s.edition whole new done)

-- none is due at the places of a line
pub settled_by : (s : Setting) (text whole : List ℕ) (places : List ℕ) → whole ≡ text ++ s.rest
    → EachOutcome s.edition whole (λ o. places ≡ fault_boundaries s.edition whole o.stop)
    → NoneDue s text places → IsSettled s text
settled_by s text whole places w boundaries none =
    let on : EachOutcome s.edition (text ++ s.rest) (λ o. places ≡ fault_boundaries s.edition (text ++ s.rest) o.stop) =
    subst (λ x. EachOutcome s.edition x (λ o. places ≡ fault_boundaries s.edition x o.stop)) w boundaries in
    λ r g. subst (λ ps. NoneDue s text ps) (on r g) none

-- nor where there are too many for all to be tried
pub untried : (s : Setting) (text whole other places : List ℕ) (n m most : ℕ) → whole ≡ text ++ s.rest
    → other ≡ text ++ s.rest → EachOutcome s.edition whole (λ o. places ≡ fault_boundaries s.edition whole o.stop)
    → n ≡ length places → m ≡ min (n * length other) most → TRIED_BYTES < m → IsSettled s text
untried s text whole other places n m most w v boundaries e f h =
    let same : n * length other ≡ length places * length (text ++ s.rest) =
    ap (λ k. k * length other) e ∙ ap (λ x. length places * length x) v in
    settled_by s text whole places w boundaries
    (λ few.
    absurd (too_many m (n * length other) most TRIED_BYTES f h (subst (λ k. k ≤ TRIED_BYTES) (sym same) few)))
