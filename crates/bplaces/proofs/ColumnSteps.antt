-- Lines and columns along a text.
use Rattle.std.proofs.Common.{◌≡◌, ◌∙◌, ◌+◌, ◌<◌, ℕ, zero, suc, List, [], ◌∷◌, ap, arith, get_or, length, refl, sym, take}
use Rattle.std.proofs.lemmas.Bool.Decides.{nat_tests}
use Rattle.blang.specs.Cut.{line_number_after, next_line}
use Rattle.bplaces.specs.Columns.{column_after, next_column}

line_next : (line : ℕ) (bs : List ℕ) (i : ℕ) → i < length bs → line_number_after line (take (suc i) bs) ≡ next_line (line_number_after line (take i bs)) (get_or bs i 0)
line_next line [] i h = absurd (omega (arith, h))
line_next line (b ∷ bs) zero h = refl
line_next line (b ∷ bs) (suc i) h = line_next (next_line line b) bs i (omega (arith, h))

column_next : (column : ℕ) (bs : List ℕ) (i : ℕ) → i < length bs → column_after column (take (suc i) bs) ≡ next_column (column_after column (take i bs)) (get_or bs i 0)
column_next column [] i h = absurd (omega (arith, h))
column_next column (b ∷ bs) zero h = refl
column_next column (b ∷ bs) (suc i) h = column_next (next_column column b) bs i (omega (arith, h))

-- a byte more
pub line_more : (line now next : ℕ) (bs : List ℕ) (i : ℕ) → i < length bs → now ≡ line_number_after line (take i bs) → next ≡ next_line now (get_or bs i 0) → next ≡ line_number_after line (take (i + 1) bs)
line_more line now next bs i h e f =
    let one : i + 1 ≡ suc i = omega arith in
    rw one (f ∙ ap (λ n. next_line n (get_or bs i 0)) e ∙ sym (line_next line bs i h))

pub column_more : (column now next : ℕ) (bs : List ℕ) (i : ℕ) → i < length bs → now ≡ column_after column (take i bs) → next ≡ next_column now (get_or bs i 0) → next ≡ column_after column (take (i + 1) bs)
column_more column now next bs i h e f =
    let one : i + 1 ≡ suc i = omega arith in
    rw one (f ∙ ap (λ n. next_column n (get_or bs i 0)) e ∙ sym (column_next column bs i h))

pub column_some : (column b : ℕ) → 0 < next_column column b
column_some column b = grind (arith, nat_tests)
