-- Names that have no address, one part after another.
use Rattle.std.proofs.Common.{◌≡◌, ℕ, suc, ◌+◌, ◌<◌, List, [], ◌∷◌, ◌++◌, length, take, drop, get_or, map, sym, ap, ◌∙◌, subst, Option, Some, None}
use Rattle.std.specs.Prelude.{flat_map, option_map, is_none}
use Rattle.std.specs.Option.{option_or}
use Rattle.std.proofs.lemmas.Grind.{flat_map-append}
use Rattle.std.proofs.lemmas.List.{map-append, take_more}
use Rattle.std.proofs.lemmas.List.Folds.{find-append}
use Rattle.std.proofs.Math.Seq.{split_at}
use Rattle.blang.specs.declared.run.LoadFault.{LoadFault}
use Rattle.blang.specs.declared.run.LoadFault.TheVariants as fault
use Rattle.blang.specs.Layout.{first_undefined}
use Rattle.bmach.specs.Loading.{IsFault, undefined_fault}

pub map_more : {A B : Type 0} (f : A → B) (xs : List A) (i : ℕ) (x : A) → i < length xs → x ≡ get_or xs i x → map f (take (i + 1) xs) ≡ map f (take i xs) ++ f x ∷ []
map_more f xs i x lt is =
    ap (map f) (take_more xs i x lt) ∙ map-append f (take i xs) (get_or xs i x ∷ []) ∙ ap (λ y. map f (take i xs) ++ f y ∷ []) (sym is)

-- the fault of names is that of names with more after
pub fault_in_front : (f : LoadFault) (o rest : Option (List ℕ)) → IsFault f (option_map fault.Undefined o) → IsFault f (option_map fault.Undefined (option_or o rest))
fault_in_front fault.Memory o rest h = tt
fault_in_front f (Some x) rest h = h
fault_in_front f None rest h = cc

module _ (address_of : List ℕ → Option ℕ) {A : Type 0} (names : A → List (List ℕ)) where
  first_of_two : (xs ys : List A) → first_undefined address_of (flat_map names (xs ++ ys)) ≡ option_or (first_undefined address_of (flat_map names xs)) (first_undefined address_of (flat_map names ys))
  first_of_two xs ys =
      ap (first_undefined address_of) (flat_map-append names xs ys)
      ∙ find-append (λ x. is_none (address_of x)) (flat_map names xs) (flat_map names ys)

  first_of_rest : (x : A) (rest : List A) → first_undefined address_of (flat_map names (x ∷ rest)) ≡ option_or (first_undefined address_of (names x)) (first_undefined address_of (flat_map names rest))
  first_of_rest x rest = find-append (λ x. is_none (address_of x)) (names x) (flat_map names rest)

  -- one part more
  pub defined_after : (xs : List A) (x : A) → first_undefined address_of (flat_map names xs) ≡ None
      → first_undefined address_of (names x) ≡ None
      → first_undefined address_of (flat_map names (xs ++ x ∷ [])) ≡ None
  defined_after xs x before here =
      first_of_two xs (x ∷ [])
      ∙ ap (λ o. option_or o (first_undefined address_of (flat_map names (x ∷ [])))) before
      ∙ first_of_rest x []
      ∙ ap (λ o. option_or o None) here

  pub undefined_after : (xs : List A) (x : A) (rest : List A) (f : LoadFault)
      → first_undefined address_of (flat_map names xs) ≡ None → IsFault f (undefined_fault address_of (names x))
      → IsFault f (undefined_fault address_of (flat_map names (xs ++ x ∷ rest)))
  undefined_after xs x rest f before here =
      let whole : first_undefined address_of (flat_map names (xs ++ x ∷ rest)) ≡ option_or (first_undefined address_of (names x)) (first_undefined address_of (flat_map names rest)) =
      first_of_two xs (x ∷ rest)
      ∙ ap (λ o. option_or o (first_undefined address_of (flat_map names (x ∷ rest)))) before
      ∙ first_of_rest x rest in
      subst (λ o. IsFault f (option_map fault.Undefined o)) (sym whole) (fault_in_front f (first_undefined address_of (names x)) _ here)

  pub defined_more : (xs : List A) (i : ℕ) (x : A) → i < length xs → x ≡ get_or xs i x → first_undefined address_of (flat_map names (take i xs)) ≡ None → first_undefined address_of (names x) ≡ None → first_undefined address_of (flat_map names (take (i + 1) xs)) ≡ None
  defined_more xs i x lt is before here =
      ap (λ ys. first_undefined address_of (flat_map names ys)) (take_more xs i x lt ∙ ap (λ y. take i xs ++ y ∷ []) (sym is))
      ∙ defined_after (take i xs) x before here

  pub undefined_at : (xs : List A) (i : ℕ) (x : A) (f : LoadFault) → i < length xs → x ≡ get_or xs i x → first_undefined address_of (flat_map names (take i xs)) ≡ None → IsFault f (undefined_fault address_of (names x)) → IsFault f (undefined_fault address_of (flat_map names xs))
  undefined_at xs i x f lt is before here =
      let split : xs ≡ take i xs ++ x ∷ drop (suc i) xs = split_at xs i x lt ∙ ap (λ y. take i xs ++ y ∷ drop (suc i) xs) (sym is) in
      subst (λ ys. IsFault f (undefined_fault address_of (flat_map names ys))) (sym split) (undefined_after (take i xs) x (drop (suc i) xs) f before here)
