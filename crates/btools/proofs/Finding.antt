-- The first of a list that passes a test.
use Rattle.std.proofs.Common.{◌≡◌, ◌∙◌, ℕ, zero, suc, ◌+◌, ◌<◌, Bool, true, false, cond, List, [], ◌∷◌, ◌++◌, Some, None, ap, arith, get_or, length, map, refl, sym, take}
use Rattle.std.specs.List.{find}
use Rattle.std.specs.Option.{option_or}
use Rattle.std.specs.Prelude.{◌==◌}
use Rattle.std.proofs.lemmas.Bool.Decides.{nat_tests}
use Rattle.std.proofs.lemmas.List.{map-append, take_more}
use Rattle.std.proofs.lemmas.List.Folds.{find-append}

pub same_number : (a b : ℕ) → a ≡ b → (a == b) ≡ true
same_number a b e = grind (arith, nat_tests)

pub other_number : (a b : ℕ) → (a ≡ b → ⊥) → (a == b) ≡ false
other_number a b e = grind (arith, nat_tests)

module _ {A B : Type 0} (f : A → B) (p : B → Bool) where
  pub missed : (xs : List A) (i : ℕ) (x : A) → i < length xs → x ≡ get_or xs i x → find p (map f (take i xs)) ≡ None → p (f x) ≡ false → find p (map f (take (i + 1) xs)) ≡ None
  missed xs i x lt is none not =
      let last : cond (p (f x)) (Some (f x)) None ≡ None = rw not refl in
      ap (λ ys. find p (map f ys)) (take_more xs i x lt ∙ ap (λ y. take i xs ++ y ∷ []) (sym is)) ∙ ap (find p) (map-append f (take i xs) (x ∷ []))
      ∙ find-append p (map f (take i xs)) (f x ∷ []) ∙ ap (λ o. option_or o (find p (f x ∷ []))) none ∙ last

  past : (x : A) (xs : List A) (b : Bool) → p (f x) ≡ b → cond b (Some (f x)) (find p (map f xs)) ≡ None → (p (f x) ≡ false) × (find p (map f xs) ≡ None)
  past x xs true e h = cc
  past x xs false e h = (e, h)

  found_at : (xs : List A) (i : ℕ) (d : A) → i < length xs → find p (map f (take i xs)) ≡ None → p (f (get_or xs i d)) ≡ true → find p (map f xs) ≡ Some (f (get_or xs i d))
  found_at [] i d lt none is = absurd (omega arith)
  found_at (x ∷ xs) zero d lt none is = rw is refl
  found_at (x ∷ xs) (suc i) d lt none is =
      let h = past x (take i xs) (p (f x)) refl none in
      rw h.0 (found_at xs i d (omega arith) h.1 is)

  pub found : (xs : List A) (i : ℕ) (x : A) → i < length xs → x ≡ get_or xs i x → find p (map f (take i xs)) ≡ None → p (f x) ≡ true → Some (f x) ≡ find p (map f xs)
  found xs i x lt is none so =
      let there = found_at xs i x lt none (ap (λ y. p (f y)) (sym is) ∙ so) in
      ap (λ y. Some (f y)) is ∙ sym there
