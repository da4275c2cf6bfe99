-- Names looked up in a map and in a list.
use Rattle.std.proofs.Common.{◌≡◌, ℕ, Bool, true, false, cond, List, [], ◌∷◌, ◌++◌, length, refl, sym, ap, ◌∙◌, append_assoc, append-nil, arith, Option, Some, None}
use Rattle.std.specs.Prelude.{zip, is_some, ◌||◌}
use Rattle.std.specs.List.{list_any}
use Rattle.std.specs.Option.{option_or}
use Rattle.std.specs.Ordering.{nat_cmp}
use Rattle.std.specs.Cmp.Lexicographic.{slice_cmp, nat_list_eq_equiv, bytes_decides}
use Rattle.std.specs.BTreeMap.{is_at}
use Rattle.std.specs.Map.{lookup}
use Rattle.bnames.proofs.NameMembers.{same_name-is_at}
use Rattle.bword.specs.Words.{same_name}
use Rattle.blang.specs.Layout.{Addresses, address_in, duplicate_after}
use Rattle.bmach.specs.Loading.{Knows}

pub lookup-append : {K X : Type 0} (test : K → Bool) (xs ys : List (K × X)) → lookup test (xs ++ ys) ≡ option_or (lookup test xs) (lookup test ys)
lookup-append test [] ys = refl
lookup-append test (e ∷ xs) ys =
    elim (test e.0) as (λ b. cond b (Some e.1) (lookup test (xs ++ ys)) ≡ option_or (cond b (Some e.1) (lookup test xs)) (lookup test ys)) [
      | true ↦ refl
      | false ↦ lookup-append test xs ys
    ]

-- whether a name has an address is whether it stands among the names
pub is_some-lookup-zip : {K X : Type 0} (test : K → Bool) (ks : List K) (vs : List X) → length ks ≡ length vs → is_some (lookup test (zip ks vs)) ≡ list_any test ks
is_some-lookup-zip test [] [] e = refl
is_some-lookup-zip test [] (v ∷ vs) e = refl
is_some-lookup-zip test (k ∷ ks) [] e = absurd (omega arith)
is_some-lookup-zip test (k ∷ ks) (v ∷ vs) e =
    elim (test k) as (λ b. is_some (cond b (Some v) (lookup test (zip ks vs))) ≡ (b || list_any test ks)) [
      | true ↦ refl
      | false ↦ is_some-lookup-zip test ks vs (omega arith)
    ]

-- a map compares names as the layout does
pub lookup-is_at : (x : List ℕ) (known : Addresses) → lookup (is_at (slice_cmp nat_cmp x)) known ≡ address_in known x
lookup-is_at x known = λ i. lookup (λ y. same_name-is_at x y i) known

-- what a map knows with one entry more is what a list of addresses does
pub knows : (old new : Addresses) (x : List ℕ) (a : ℕ) → ((y : List ℕ) → lookup (is_at (slice_cmp nat_cmp y)) new ≡ cond (is_at (slice_cmp nat_cmp x) y) (Some a) (lookup (is_at (slice_cmp nat_cmp y)) old)) → Knows old x a new
knows old new x a h y =
    sym (lookup-is_at y new) ∙ h y
    ∙ ap (λ b. cond b (Some a) (lookup (is_at (slice_cmp nat_cmp y)) old)) (same_name-is_at x y)
    ∙ ap (λ o. cond (same_name x y) (Some a) o) (lookup-is_at y old)

known_push : (known : Addresses) (k x : List ℕ) (v : ℕ) (b : Bool) → same_name x k ≡ b → address_in known k ≡ None → cond b (Some v) (address_in known x) ≡ option_or (address_in known x) (cond b (Some v) None)
known_push known k x v true e none =
    let same : x ≡ k = (bytes_decides x k).0 e in
    let gone : address_in known x ≡ None = ap (address_in known) same ∙ none in
    rw gone refl
known_push known k x v false e none =
    elim (address_in known x) as (λ o. o ≡ option_or o None) [ Some a ↦ refl | None ↦ refl ]

-- a new name comes after the others
pub address_in-push : (known : Addresses) (k x : List ℕ) (v : ℕ) → address_in known k ≡ None → cond (same_name k x) (Some v) (address_in known x) ≡ address_in (known ++ (k, v) ∷ []) x
address_in-push known k x v none =
    ap (λ b. cond b (Some v) (address_in known x)) (nat_list_eq_equiv.symm k x)
    ∙ known_push known k x v (same_name x k) refl none
    ∙ sym (lookup-append (same_name x) known ((k, v) ∷ []))

none_in_front : (b : Bool) (x : List ℕ) (front whole later : Option (List ℕ)) → (front ≡ None → whole ≡ later) → cond b (Some x) front ≡ None → cond b (Some x) whole ≡ later
none_in_front true x front whole later step h = cc
none_in_front false x front whole later step h = step h

-- whether a name stands twice among names and more names
pub duplicate_after-append : (before xs ys : List (List ℕ)) → duplicate_after before xs ≡ None → duplicate_after before (xs ++ ys) ≡ duplicate_after (before ++ xs) ys
duplicate_after-append before [] ys e = ap (λ b. duplicate_after b ys) (sym (append-nil before))
duplicate_after-append before (x ∷ xs) ys e =
    none_in_front (list_any (same_name x) before) x _ _ _ (λ h. duplicate_after-append (before ++ x ∷ []) xs ys h ∙ ap (λ b. duplicate_after b ys) (append_assoc before (x ∷ []) xs)) e
