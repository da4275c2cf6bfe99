-- Whether definitions fit.
use Rattle.std.proofs.Common.{◌≡◌, ℕ, ◌+◌, ◌<◌, ◌≤◌, true, false, List, [], ◌∷◌, ◌++◌, arith, ◌⊎◌, inl, inr, ⊎_elim}
use Rattle.std.specs.Prelude.{nat_lt, not, ◌||◌}
use Rattle.std.proofs.lemmas.Bool.Decides.{nat_tests}
use Rattle.std.proofs.lemmas.List.Sums.{sum_by-append}
use Rattle.blang.specs.Layout.{Shape, size_of, labels_in, data_end, label_count}
use Rattle.bmach.specs.Loading.{fits_store}

fits_from : (end labels : ℕ) → end ≤ 65536 → labels ≤ 65535 → not (nat_lt 65536 end || nat_lt 65535 labels) ≡ true
fits_from end labels h k = grind (arith, nat_tests)

fits_not : (end labels : ℕ) → (65536 < end) ⊎ (65535 < labels) → not (nat_lt 65536 end || nat_lt 65535 labels) ≡ false
fits_not end labels h = grind (arith, nat_tests)

fits_bounds : (end labels : ℕ) → not (nat_lt 65536 end || nat_lt 65535 labels) ≡ true → (end ≤ 65536) × (labels ≤ 65535)
fits_bounds end labels h = (grind (arith, nat_tests), grind (arith, nat_tests))

pub fits_if : (ds : List Shape) → data_end ds ≤ 65536 → label_count ds ≤ 65535 → fits_store ds ≡ true
fits_if ds h k = fits_from (data_end ds) (label_count ds) h k

pub bounds_if_fits : (ds : List Shape) → fits_store ds ≡ true → (data_end ds ≤ 65536) × (label_count ds ≤ 65535)
bounds_if_fits ds h = fits_bounds (data_end ds) (label_count ds) h

pub label_count-push : (ds : List Shape) (d : Shape) → label_count (ds ++ d ∷ []) ≡ label_count ds + labels_in d.kind
label_count-push ds d = omega (arith, sum_by-append (λ (e : Shape). labels_in e.kind) ds (d ∷ []))

-- some of the definitions are too large already
pub too_large : (before : List Shape) (d : Shape) (rest : List Shape) → (65536 < data_end before + size_of d) ⊎ (65535 < label_count before + labels_in d.kind) → fits_store (before ++ (d ∷ rest)) ≡ false
too_large before d rest h =
    let labels : Shape → ℕ = λ e. labels_in e.kind in
    fits_not (data_end (before ++ (d ∷ rest))) (label_count (before ++ (d ∷ rest)))
    (⊎_elim
    (λ e. inl (omega (arith, e, sum_by-append size_of before (d ∷ rest), sum_by-append size_of (d ∷ []) rest)))
    (λ e. inr (omega (arith, e, sum_by-append labels before (d ∷ rest), sum_by-append labels (d ∷ []) rest)))
    h)

-- as many as one definition more are within all
pub one_more_fits : (before : List Shape) (d : Shape) (rest : List Shape) → fits_store (before ++ (d ∷ rest)) ≡ true → (data_end before + size_of d ≤ 65536) × (label_count before + labels_in d.kind ≤ 65535)
one_more_fits before d rest h =
    let labels : Shape → ℕ = λ e. labels_in e.kind in
    let b = bounds_if_fits (before ++ (d ∷ rest)) h in
    (omega (arith, b.0, sum_by-append size_of before (d ∷ rest), sum_by-append size_of (d ∷ []) rest), omega (arith, b.1, sum_by-append labels before (d ∷ rest), sum_by-append labels (d ∷ []) rest))
