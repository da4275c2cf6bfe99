-- Columns in units along a text.
use Rattle.std.proofs.Common.{◌≡◌, ◌∙◌, ◌+◌, ◌-◌, ◌<◌, ◌≤◌, ℕ, zero, suc, List, [], ◌∷◌, ◌++◌, ap, append_assoc, arith, drop, get_or, length, refl, subst, sym, take}
use Rattle.std.proofs.lemmas.List.{drop-append-le, drop_min, length-drop, take-append-drop, take-append-le, take_all, take_min}
use Rattle.std.proofs.Math.Nat.{min-le_right}
use Rattle.std.specs.Prelude.{min}
use Rattle.bplaces.specs.Units.{next_unit, units_after}
use Rattle.bplaces.specs.declared.units.UnitPlace.{UnitPlace}

unit_next : (u : UnitPlace) (bs : List ℕ) (i : ℕ) → i < length bs → units_after u (take (suc i) bs) (drop (suc i) bs) ≡ next_unit (units_after u (take i bs) (drop i bs)) (get_or bs i 0) (drop (suc i) bs)
unit_next u [] i h = absurd (omega (arith, h))
unit_next u (b ∷ bs) zero h = refl
unit_next u (b ∷ bs) (suc i) h =
    ap (λ t. units_after (next_unit u b t) (take (suc i) bs) (drop (suc i) bs)) (take-append-drop (suc i) bs)
    ∙ unit_next (next_unit u b bs) bs i (omega (arith, h))
    ∙ ap (λ t. next_unit (units_after (next_unit u b t) (take i bs) (drop i bs)) (get_or bs i 0) (drop (suc i) bs)) (sym (take-append-drop i bs))

-- a byte more, before the bytes that follow it
pub units_more : (u now next : UnitPlace) (bs : List ℕ) (i : ℕ) → i < length bs → now ≡ units_after u (take i bs) (drop i bs) → next ≡ next_unit now (get_or bs i 0) (take (length bs - (i + 1)) (drop (i + 1) bs)) → next ≡ units_after u (take (i + 1) bs) (drop (i + 1) bs)
units_more u now next bs i h e f =
    let one : i + 1 ≡ suc i = omega arith in
    let few : length (drop (i + 1) bs) ≤ length bs - (i + 1) = rw (length-drop (i + 1) bs) (omega arith) in
    let all : take (length bs - (i + 1)) (drop (i + 1) bs) ≡ drop (i + 1) bs = take_all (length bs - (i + 1)) (drop (i + 1) bs) few in
    let g : next ≡ next_unit now (get_or bs i 0) (drop (i + 1) bs) = f ∙ ap (next_unit now (get_or bs i 0)) all in
    subst (λ n. next ≡ units_after u (take n bs) (drop n bs)) (sym one)
    (subst (λ n. next ≡ next_unit now (get_or bs i 0) (drop n bs)) one g ∙ ap (λ n. next_unit n (get_or bs i 0) (drop (suc i) bs)) e ∙ sym (unit_next u bs i h))

-- a text after another
units_append : (u : UnitPlace) (xs ys zs : List ℕ) → units_after u (xs ++ ys) zs ≡ units_after (units_after u xs (ys ++ zs)) ys zs
units_append u [] ys zs = refl
units_append u (x ∷ xs) ys zs =
    ap (λ t. units_after (next_unit u x t) (xs ++ ys) zs) (append_assoc xs ys zs) ∙ units_append (next_unit u x (xs ++ (ys ++ zs))) xs ys zs

-- The units after so many marks, where these bytes of a rest are shown.
pub units_marked : (u : UnitPlace) (before rest right after : List ℕ) (marks : ℕ) → right ++ after ≡ rest
    → units_after u (before ++ take marks right) (drop marks right ++ after)
    ≡ units_after (units_after u before rest) (take (min marks (length right)) rest) (drop (min marks (length right)) rest)
units_marked u before rest right after marks e =
    let n = min marks (length right) in
    let few : n ≤ length right = min-le_right marks (length right) in
    let whole : take marks right ++ (drop marks right ++ after) ≡ rest = sym (append_assoc (take marks right) (drop marks right) after) ∙ ap (λ t. t ++ after) (take-append-drop marks right) ∙ e in
    let first : take marks right ≡ take n rest = sym (take_min marks right) ∙ sym (take-append-le n right after few) ∙ ap (take n) e in
    let others : drop marks right ++ after ≡ drop n rest = ap (λ t. t ++ after) (sym (drop_min marks right)) ∙ sym (drop-append-le n right after few) ∙ ap (drop n) e in
    units_append u before (take marks right) (drop marks right ++ after)
    ∙ ap (λ t. units_after (units_after u before t) (take marks right) (drop marks right ++ after)) whole
    ∙ ap (λ t. units_after (units_after u before rest) t (drop marks right ++ after)) first
    ∙ ap (λ t. units_after (units_after u before rest) (take n rest) t) others
