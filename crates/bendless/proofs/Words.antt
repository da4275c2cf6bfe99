-- The words of a store, one after another.
use Rattle.std.proofs.Common.{◌≡◌, ◌∙◌, ℕ, ◌+◌, ◌<◌, Bool, true, false, nat_eq, refl, List, [], ◌∷◌, ◌++◌, ap, arith, get_or, length, map, sym, take}
use Rattle.std.specs.Prelude.{not, slice_index}
use Rattle.std.specs.Cmp.Lexicographic.{pointwise, same_text}
use Rattle.std.specs.List.{range_with_len}
use Rattle.std.proofs.lemmas.List.{take_more}
use Rattle.std.proofs.lemmas.List.FromFn.{map-range_with_len_more}

pub one_read : (store words new : List ℕ) (n w : ℕ) → words ≡ map (slice_index store) (range_with_len 0 n) → w ≡ slice_index store n
    → new ≡ words ++ w ∷ [] → new ≡ map (slice_index store) (range_with_len 0 (n + 1))
one_read store words new n w before is more =
    more ∙ ap (λ xs. xs ++ w ∷ []) before ∙ ap (λ x. map (slice_index store) (range_with_len 0 n) ++ x ∷ []) is
    ∙ sym (map-range_with_len_more (slice_index store) 0 n n (omega arith))

pub one_same : (store words : List ℕ) (n w : ℕ) → n < length words → take n words ≡ map (slice_index store) (range_with_len 0 n) → w ≡ slice_index store n
    → w ≡ get_or words n 0 → take (n + 1) words ≡ map (slice_index store) (range_with_len 0 (n + 1))
one_same store words n w within before is same =
    one_read store (take n words) (take (n + 1) words) n w before is (take_more words n 0 within ∙ ap (λ x. take n words ++ x ∷ []) (sym same))

-- two lists that don't differ
pub same_words : (r : Bool) (xs ys : List ℕ) → r ≡ not (pointwise nat_eq xs ys) → r ≡ false → xs ≡ ys
same_words r xs ys is differ = same_text xs ys (unlike (pointwise nat_eq xs ys) (sym is ∙ differ))
  where
    unlike : (b : Bool) → not b ≡ false → true ≡ b
    unlike true e = refl
    unlike false e = cc
