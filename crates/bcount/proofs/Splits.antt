-- The first line of a text, and those after it.
use Rattle.std.proofs.Common.{◌≡◌, ◌∙◌, ℕ, zero, suc, ◌+◌, ◌-◌, ◌<◌, ◌≤◌, ◌==◌, Bool, true, false, cond, List, [], ◌∷◌, Some, None, ap, arith, codes, drop, get_or, length, nat_lt, refl, sym, take}
use Rattle.std.specs.List.{ends_with, position, position_or_len}
use Rattle.std.proofs.lemmas.Bool.{ltb-false}
use Rattle.std.proofs.lemmas.Bool.Decides.{Decides-eqb}
use Rattle.std.proofs.lemmas.List.Splits.{slice_split_first, slice_split_none}
use Rattle.std.proofs.lemmas.List.Sums.{fails_before_first, position_or_len_is, sum_by-append}
use Rattle.std.proofs.lemmas.List.Quantifiers.{position-Some}
use Rattle.std.proofs.lemmas.Slice.Eq.{ends_is}
use Rattle.btools.specs.SourceLines.{source_lines}
use Rattle.btools.specs.SourceLines.{newlines_in}

-- a text that ends with a newline has one
pub ended : (s : List ℕ) → ends_with (λ a b. a == b) s (codes "\n") ≡ true → 0 < newlines_in s
ended s e =
    let is = (ends_is Decides-eqb s (codes "\n") true (sym e)).0 refl in
    let sum : newlines_in s ≡ newlines_in (take (length s - 1) s) + 1 = ap newlines_in is ∙ sum_by-append (λ b. cond (b == 10) 1 0) (take (length s - 1) s) (codes "\n") in
    omega (arith, sum)

abbrev newline : ℕ → Bool
newline b = b == 10

none_found : (s : List ℕ) → position newline s ≡ None → length s ≤ position_or_len newline s
none_found s e = by (nat_lt (position_or_len newline s) (length s)) refl
  where
    by : (b : Bool) → nat_lt (position_or_len newline s) (length s) ≡ b → length s ≤ position_or_len newline s
    by true t = let some : Some (position_or_len newline s) ≡ None = ap (λ (b : Bool). cond b (Some (position_or_len newline s)) None) (sym t) ∙ e in cc
    by false t = ltb-false (position_or_len newline s) (length s) t

-- a text with a newline
pub line_found : (s : List ℕ) (end : ℕ) → position newline s ≡ Some end → source_lines s ≡ take end s ∷ source_lines (drop (end + 1) s)
line_found s end e =
    let h = position-Some newline s end 0 e in
    let at : position_or_len newline s ≡ end = position_or_len_is newline s end 0 (omega (arith, h.0)) h.2 (λ l. h.1) in
    slice_split_first newline s 0 (omega (arith, at, h.0)) ∙ ap (λ n. take n s ∷ source_lines (drop (n + 1) s)) at

-- a text without one
pub line_alone : (s : List ℕ) → position newline s ≡ None → source_lines s ≡ s ∷ []
line_alone s e =
    let all = none_found s e in
    slice_split_none newline s (λ k d l. fails_before_first newline s k d (omega (arith, l, all)))

pub none_after : (s : List ℕ) (k : ℕ) → get_or (s ∷ []) (suc k) [] ≡ get_or (source_lines []) k []
none_after s zero = refl
none_after s (suc k) = refl
