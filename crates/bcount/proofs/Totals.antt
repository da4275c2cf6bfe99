-- The counts of all instructions, together.
use Rattle.std.proofs.Common.{◌≡◌, ◌∙◌, ⊎_elim, ℕ, zero, suc, ◌+◌, ◌<◌, ◌≤◌, Bool, true, false, cond, List, [], ◌∷◌, Option, Some, ap, arith, get_or, length, map, refl, sym}
use Rattle.std.specs.Prelude.{◌==◌, ◌&&◌}
use Rattle.std.specs.List.{All, AllPairs, flat_map, range_with_len, sum_by}
use Rattle.std.proofs.lemmas.Bool.{cases_eq}
use Rattle.std.proofs.lemmas.List.Sums.{sum_by-append, sum_by-cons}
use Rattle.bmach.specs.declared.machine.Active.{Active}
use Rattle.btools.specs.Functions.{Placed}
use Rattle.btools.proofs.Finding.{other_number, same_number}
use Rattle.bwatch.specs.Sights.{Sights}
use Rattle.bcount.specs.Tallies.{counts_of, is_at, times}
use Rattle.bcount.proofs.Noting.{times_more}

-- sums of sums
pub sum_both : {A : Type 0} (f g : A → ℕ) (xs : List A) → sum_by (λ x. f x + g x) xs ≡ sum_by f xs + sum_by g xs
sum_both f g [] = refl
sum_both f g (x ∷ xs) =
    let e = sum_both f g xs in
    let a = sum_by-cons (λ y. f y + g y) x xs in
    let b = sum_by-cons f x xs in
    let c = sum_by-cons g x xs in
    omega (arith, a, b, c, e)

pub sum_zeros : {A : Type 0} (xs : List A) → sum_by (λ x. 0) xs ≡ 0
sum_zeros [] = refl
sum_zeros (x ∷ xs) = let e = sum_zeros xs in let a = sum_by-cons (λ x. 0) x xs in omega (arith, a, e)

pub sum_of_map : {A B : Type 0} (g : B → ℕ) (f : A → B) (xs : List A) → sum_by g (map f xs) ≡ sum_by (λ x. g (f x)) xs
sum_of_map g f [] = refl
sum_of_map g f (x ∷ xs) = sum_by-cons g (f x) (map f xs) ∙ ap (λ n. g (f x) + n) (sum_of_map g f xs) ∙ sym (sum_by-cons (λ y. g (f y)) x xs)

pub sum_of_lists : (xss : List (List ℕ)) → sum_by (λ x. x) (flat_map (λ xs. xs) xss) ≡ sum_by (λ xs. sum_by (λ x. x) xs) xss
sum_of_lists [] = refl
sum_of_lists (xs ∷ xss) =
    sum_by-append (λ x. x) xs (flat_map (λ ys. ys) xss) ∙ ap (λ n. sum_by (λ x. x) xs + n) (sum_of_lists xss)
    ∙ sym (sum_by-cons (λ (ys : List ℕ). sum_by (λ x. x) ys) xs xss)

-- a sum of which one number alone has a part
module _ (w : ℕ → ℕ) (p : ℕ) (others : (k : ℕ) → (k ≡ p → ⊥) → w k ≡ 0) where
  pub none_before : (a n : ℕ) → p < a → sum_by w (range_with_len a n) ≡ 0
  none_before a zero lt = refl
  none_before a (suc n) lt =
      let e = sum_by-cons w a (range_with_len (a + 1) n) in
      let here = others a (λ same. omega (arith, same, lt)) in
      let rest = none_before (a + 1) n (omega (arith, lt)) in
      omega (arith, e, here, rest)

  pub none_after : (a n : ℕ) → a + n ≤ p → sum_by w (range_with_len a n) ≡ 0
  none_after a zero le = refl
  none_after a (suc n) le =
      let e = sum_by-cons w a (range_with_len (a + 1) n) in
      let here = others a (λ same. omega (arith, same, le)) in
      let rest = none_after (a + 1) n (omega (arith, le)) in
      omega (arith, e, here, rest)

  pub one_part : (a n : ℕ) → a ≤ p → p < a + n → sum_by w (range_with_len a n) ≡ w p
  one_part a zero low high = absurd (omega (arith, low, high))
  one_part a (suc n) low high = ⊎_elim
      (λ same.
      let e = sum_by-cons w a (range_with_len (a + 1) n) in
      let here = ap w same in
      let rest = none_before (a + 1) n (omega (arith, same)) in
      omega (arith, e, here, rest))
      (λ other.
      let e = sum_by-cons w a (range_with_len (a + 1) n) in
      let here = others a other in
      let rest = one_part (a + 1) n (omega (arith, low, other)) (omega (arith, high)) in
      omega (arith, e, here, rest))
      (cases_eq a p)

abbrev one_if : Bool → ℕ
one_if b = cond b 1 0

-- how many places of the functions a machine is at
abbrev pub hits : Option Active → Placed → ℕ
hits s f = sum_by (λ k. one_if (is_at f.strings k s)) (range_with_len 0 (length f.function.code))

abbrev pub all_hits : Option Active → List Placed → ℕ
all_hits s fs = sum_by (hits s) fs

module _ (sights : Sights) where
  abbrev pub total : (made : ℕ) → Placed → ℕ
  total made f = sum_by (times sights made f.strings) (range_with_len 0 (length f.function.code))

  total_more : (made : ℕ) (f : Placed) → total (made + 1) f ≡ total made f + hits (sights made).call f
  total_more made f =
      (λ i. sum_by (λ k. times_more sights made f.strings k i) (range_with_len 0 (length f.function.code)))
      ∙ sum_both (times sights made f.strings) (λ k. one_if (is_at f.strings k (sights made).call)) (range_with_len 0 (length f.function.code))

  pub totals_more : (made : ℕ) (fs : List Placed) → sum_by (total (made + 1)) fs ≡ sum_by (total made) fs + all_hits (sights made).call fs
  totals_more made fs = (λ i. sum_by (λ f. total_more made f i) fs) ∙ sum_both (total made) (hits (sights made).call) fs

  totals_none : (fs : List Placed) → sum_by (total 0) fs ≡ 0
  totals_none fs = (λ i. sum_by (λ (f : Placed). sum_zeros (range_with_len 0 (length f.function.code)) i) fs) ∙ sum_zeros fs

  -- as many as steps, where each is at one place
  pub totals : (fs : List Placed) (made : ℕ) → ((n : ℕ) → n < made → all_hits (sights n).call fs ≡ 1) → sum_by (total made) fs ≡ made
  totals fs zero one = totals_none fs
  totals fs (suc made) one =
      let next : suc made ≡ made + 1 = omega arith in
      let here = one made (omega arith) in
      let before = totals fs made (λ n lt. one n (omega (arith, lt))) in
      let more = totals_more made fs in
      ap (λ n. sum_by (total n) fs) next ∙ omega (arith, here, before, more)

  -- the same of the lists of counts
  pub counts_together : (fs : List Placed) (made : ℕ) → sum_by (λ x. x) (flat_map (λ xs. xs) (map (counts_of sights made) fs)) ≡ sum_by (total made) fs
  counts_together fs made =
      sum_of_lists (map (counts_of sights made) fs)
      ∙ sum_of_map (λ xs. sum_by (λ x. x) xs) (counts_of sights made) fs
      ∙ (λ i. sum_by (λ (f : Placed). sum_of_map (λ x. x) (times sights made f.strings) (range_with_len 0 (length f.function.code)) i) fs)

-- A call is at one place of one function.
module _ (call : Active) where
  abbrev now : Option Active
  now = Some call

  other_place : (f : Placed) (k : ℕ) → (k ≡ call.place → ⊥) → one_if (is_at f.strings k now) ≡ 0
  other_place f k other = ap (λ b. one_if ((f.strings == call.strings) && b)) (other_number k call.place other) ∙ not_both (f.strings == call.strings)
    where
      not_both : (b : Bool) → one_if (b && false) ≡ 0
      not_both true = refl
      not_both false = refl

  other_function : (f : Placed) → (f.strings ≡ call.strings → ⊥) → hits now f ≡ 0
  other_function f other =
      (λ i. sum_by (λ k. one_if (other_number f.strings call.strings other i && (k == call.place))) (range_with_len 0 (length f.function.code)))
      ∙ sum_zeros (range_with_len 0 (length f.function.code))

  this_function : (f : Placed) → f.strings ≡ call.strings → call.place < length f.function.code → hits now f ≡ 1
  this_function f same within =
      one_part (λ k. one_if (is_at f.strings k now)) call.place (other_place f) 0 (length f.function.code) (omega arith) (omega (arith, within))
      ∙ (λ i. one_if (same_number f.strings call.strings same i && same_number call.place call.place refl i))

  past_function : (f : Placed) → length f.function.code ≤ call.place → hits now f ≡ 0
  past_function f past = none_after (λ k. one_if (is_at f.strings k now)) call.place (other_place f) 0 (length f.function.code) (omega (arith, past))

  no_function : (fs : List Placed) → All (λ f. call.strings < f.strings) fs → all_hits now fs ≡ 0
  no_function [] above = refl
  no_function (f ∷ fs) above =
      let lt = above 0 f (omega arith) in
      let here = other_function f (λ same. omega (arith, same, lt)) in
      let rest = no_function fs (λ k d within. above (suc k) d (omega (arith, within))) in
      let e = sum_by-cons (hits now) f fs in
      omega (arith, here, rest, e)

  -- as many as in its own function
  own_hits : (v : ℕ) (fs : List Placed) → AllPairs (λ f g. f.strings < g.strings) fs → (k : ℕ) → k < length fs → ((d : Placed) → ((get_or fs k d).strings ≡ call.strings) × (hits now (get_or fs k d) ≡ v)) → all_hits now fs ≡ v
  own_hits v [] ascend k lt is = absurd (omega (arith, lt))
  own_hits v (f ∷ fs) ascend zero lt is =
      let here = (is f).1 in
      let same = (is f).0 in
      let rest = no_function fs (λ k d within. (let less = ascend 0 (suc k) d (omega arith) (omega (arith, within)) in omega (arith, same, less))) in
      let e = sum_by-cons (hits now) f fs in
      omega (arith, here, rest, e)
  own_hits v (f ∷ fs) ascend (suc k) lt is =
      let same = (is f).0 in
      let less = ascend 0 (suc k) f (omega arith) (omega (arith, lt)) in
      let here = other_function f (λ e. omega (arith, e, same, less)) in
      let rest = own_hits v fs (λ i j d low high. ascend (suc i) (suc j) d (omega (arith, low)) (omega (arith, high))) k (omega (arith, lt)) (λ d. is d) in
      let e = sum_by-cons (hits now) f fs in
      omega (arith, here, rest, e)

  pub one_hit : (fs : List Placed) → AllPairs (λ f g. f.strings < g.strings) fs → (k : ℕ) → k < length fs → ((d : Placed) → ((get_or fs k d).strings ≡ call.strings) × (call.place < length (get_or fs k d).function.code)) → all_hits now fs ≡ 1
  one_hit fs ascend k lt is = own_hits 1 fs ascend k lt (λ d. ((is d).0, this_function (get_or fs k d) (is d).0 (is d).1))

  pub no_hit : (fs : List Placed) → AllPairs (λ f g. f.strings < g.strings) fs → (k : ℕ) → k < length fs → ((d : Placed) → ((get_or fs k d).strings ≡ call.strings) × (length (get_or fs k d).function.code ≤ call.place)) → all_hits now fs ≡ 0
  no_hit fs ascend k lt is = own_hits 0 fs ascend k lt (λ d. ((is d).0, past_function (get_or fs k d) (is d).1))
