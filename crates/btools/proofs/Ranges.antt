-- Ranges of numbers that grow.
use Rattle.std.proofs.Common.{◌≡◌, ◌∙◌, ℕ, ◌+◌, ◌-◌, ◌≤◌, List, [], ◌∷◌, ◌++◌, ap, append-nil, append_assoc, arith, refl, sym}
use Rattle.std.specs.List.{flat_map, range_with_len}
use Rattle.std.proofs.lemmas.List.{map-id}
use Rattle.std.proofs.lemmas.List.Concat.{flat_map-append}
use Rattle.std.proofs.lemmas.List.FromFn.{map-range_with_len_more}

-- with one more at the end
pub one_more : (start count : ℕ) → range_with_len start (count + 1) ≡ range_with_len start count ++ (start + count) ∷ []
one_more start count = simp map-id at (map-range_with_len_more (λ (n : ℕ). n) start count (start + count) refl)

-- the same from 0 on
pub one_from_zero : (count : ℕ) → range_with_len 0 (count + 1) ≡ range_with_len 0 count ++ count ∷ []
one_from_zero count =
    let same : 0 + count ≡ count = omega arith in
    one_more 0 count ∙ ap (λ n. range_with_len 0 count ++ n ∷ []) same

pub one_further : (start address : ℕ) → start ≤ address → range_with_len start (address + 1 - start) ≡ range_with_len start (address - start) ++ address ∷ []
one_further start address le =
    let one : address + 1 - start ≡ address - start + 1 = omega arith in
    let last : start + (address - start) ≡ address = omega arith in
    ap (range_with_len start) one ∙ one_more start (address - start) ∙ ap (λ n. range_with_len start (address - start) ++ n ∷ []) last

-- the text of one number more
pub text_more : (f : ℕ → List ℕ) (head text new : List ℕ) (i : ℕ) → text ≡ head ++ flat_map f (range_with_len 0 i) → new ≡ text ++ f i → new ≡ head ++ flat_map f (range_with_len 0 (i + 1))
text_more f head text new i before one =
    let all : flat_map f (range_with_len 0 (i + 1)) ≡ flat_map f (range_with_len 0 i) ++ f i =
    ap (flat_map f) (one_from_zero i) ∙ flat_map-append f (range_with_len 0 i) (i ∷ []) ∙ ap (λ y. flat_map f (range_with_len 0 i) ++ y) (append-nil (f i)) in
    one ∙ ap (λ t. t ++ f i) before ∙ append_assoc head (flat_map f (range_with_len 0 i)) (f i) ∙ ap (λ y. head ++ y) (sym all)
