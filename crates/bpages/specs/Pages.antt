-- Promise: pages of 256 words in one list, after a page of zeros, and a table of where each of them starts.
use Rattle.std.specs.Prelude.{◌≡◌, ◌≢◌, ℕ, zero, suc, ◌+◌, ◌*◌, ◌/◌, ◌%◌, ◌<◌, ◌≤◌, List, length, map, ◌==◌}
use Rattle.std.specs.Prelude.{if◌then◌else◌, slice_index}
use Rattle.std.proofs.Common.{arith, ◌∙◌, inl, inr}
use Rattle.std.proofs.lemmas.Bool.{cases_lt}
use Rattle.std.proofs.lemmas.List.{get_or_past}
use Rattle.std.proofs.lemmas.List.FromFn.{length-map-range_with_len, get_or-map-range_with_len}
use Rattle.bword.specs.Words.{IsStore}
use Rattle.std.specs.List.{range_with_len}
use Rattle.std.specs.Ordering.{nat_cmp}
use Rattle.std.specs.FinSet as set

-- where the word of an address stands in the list
abbrev pub word_place : List ℕ → ℕ → ℕ
word_place starts a = slice_index starts (a / 256) + a % 256

-- the word of an address
abbrev pub paged_word : List ℕ → List ℕ → ℕ → ℕ
paged_word starts list a = slice_index list (word_place starts a)

-- the words of the addresses below n
unfoldable pub words_below : List ℕ → List ℕ → ℕ → List ℕ
words_below starts list n = map (paged_word starts list) (range_with_len 0 n)

-- the pages below n that have a start
unfoldable pub made_below : List ℕ → ℕ → set.FinSet nat_cmp
made_below starts zero = set.empty
made_below starts (suc n) =
    if slice_index starts n == 0 then made_below starts n else set.insert (made_below starts n) n

-- The list begins with a page of zeros. Each page starts at a multiple of 256 within it, and no two pages
-- that have a start share one.
pub record IsPaged (starts list : List ℕ) : Type 0 where
  pub count : length starts ≡ 256
  pub blank : (i : ℕ) → i < 256 → slice_index list i ≡ 0
  pub aligned : (p : ℕ) → slice_index starts p % 256 ≡ 0
  pub within : (p : ℕ) → slice_index starts p + 256 ≤ length list
  pub apart : (p q : ℕ) → slice_index starts p ≢ 0 → slice_index starts p ≡ slice_index starts q → p ≡ q
  pub size : length list ≡ 256 * (set.len (made_below starts 256) + 1)
  pub below : (i : ℕ) → slice_index list i < 65536

pub length-words_below : (starts list : List ℕ) (n : ℕ) → length (words_below starts list n) ≡ n
unfolding words_below
length-words_below starts list n = length-map-range_with_len (paged_word starts list) 0 n

pub get_or-words_below : (starts list : List ℕ) (n a : ℕ) → a < n →
    slice_index (words_below starts list n) a ≡ paged_word starts list a
unfolding words_below
get_or-words_below starts list n a h = get_or-map-range_with_len (paged_word starts list) 0 n a a 0 h (omega arith)

words_below-fit : (starts list : List ℕ) (n a : ℕ) → IsPaged starts list →
    slice_index (words_below starts list n) a < 65536
words_below-fit starts list n a h = elim (cases_lt a n) [
  | inl k ↦ rw (get_or-words_below starts list n a k) (h.below (word_place starts a))
  | inr k ↦
      let words = words_below starts list n in
      let past : slice_index words a ≡ 0 = get_or_past words a 0 (omega (arith, length-words_below starts list n)) in
      omega arith
]

pub IsPaged-IsStore : (starts list : List ℕ) (n : ℕ) → n ≡ 65536 → IsPaged starts list →
    IsStore (words_below starts list n)
IsPaged-IsStore starts list n e h = record {
  count = length-words_below starts list n ∙ e;
  below = λ a. words_below-fit starts list n a h;
}
