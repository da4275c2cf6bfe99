-- Lines in the order of their cost.
use Rattle.std.proofs.Common.{◌≡◌, ◌∙◌, ℕ, suc, ◌+◌, Bool, true, false, cond, not, List, [], ◌∷◌, Some, None, ap, arith, length, nat_lt, refl, if◌then◌else◌}
use Rattle.std.specs.Prelude.{unwrap_or}
use Rattle.std.specs.List.{insert, position, position_or_len}
use Rattle.std.proofs.lemmas.Bool.{ltb-false}
use Rattle.std.proofs.lemmas.List.Sums.{prefix_len-le-length}
use Rattle.bcount.specs.Marks.{inserted}
use Rattle.bcount.specs.declared.marks.MarkedLine.{MarkedLine}

-- where it is inserted
pub inserted_at : (m : MarkedLine) (xs : List MarkedLine) → insert xs (position_or_len (λ k. nat_lt k.steps m.steps) xs) m ≡ inserted m xs
inserted_at m [] = refl
inserted_at m (k ∷ ks) = by (nat_lt k.steps m.steps) (inserted_at m ks)
  where
    cheaper : ℕ
    cheaper = position_or_len (λ x. nat_lt x.steps m.steps) ks

    next : 1 + cheaper ≡ suc cheaper
    next = omega arith

    by : (b : Bool) → insert ks cheaper m ≡ inserted m ks → insert (k ∷ ks) (cond (not b) (1 + cheaper) 0) m ≡ (if b then m ∷ k ∷ ks else k ∷ inserted m ks)
    by true h = refl
    by false h = ap (λ n. insert (k ∷ ks) n m) next ∙ ap (λ t. k ∷ t) h

pub found_or_len : {A : Type 0} (p : A → Bool) (xs : List A) → unwrap_or (position p xs) (length xs) ≡ position_or_len p xs
found_or_len p xs = by (nat_lt (position_or_len p xs) (length xs)) refl
  where
    by : (b : Bool) → nat_lt (position_or_len p xs) (length xs) ≡ b → unwrap_or (cond b (Some (position_or_len p xs)) None) (length xs) ≡ position_or_len p xs
    by true e = refl
    by false e = let high = ltb-false (position_or_len p xs) (length xs) e in let low = prefix_len-le-length (λ x. not (p x)) xs in omega (arith, high, low)
