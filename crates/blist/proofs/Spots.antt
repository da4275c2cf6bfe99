-- Where words lie, as addresses count: modulo 65536.
use Rattle.std.proofs.Common.{◌≡◌, ◌∙◌, ◌+◌, ◌%◌, ℕ, List, [], None, arith}
use Rattle.std.specs.List.{slice_get}
use Rattle.blang.specs.Text.{ival_line, string_line}
use Rattle.blang.specs.declared.code.Ival.{Ival}
use Rattle.blist.specs.declared.rows.CodeSpot.TheVariants as spot
use Rattle.blist.specs.declared.rows.Named.TheVariants as named
use Rattle.blist.specs.ListingTexts.{row_text, rows_of, string_rows, value_rows}

pub later : (a k i : ℕ) → k ≡ i % 65536 → (a + k) % 65536 ≡ (a + i) % 65536
later a k i is = omega (arith, is)

pub wrapped : (n : ℕ) → (n % 65536) % 65536 ≡ n % 65536
wrapped n = omega arith

pub after_words : (a w k : ℕ) → w ≡ k % 65536 → ((a + w) % 65536) % 65536 ≡ (a + k) % 65536
after_words a w k is = wrapped (a + w) ∙ later a w k is

pub after_own_word : (a w k : ℕ) → w ≡ k % 65536 → (((a + 1) % 65536 + w) % 65536) % 65536 ≡ (a + (1 + k)) % 65536
after_own_word a w k is = omega (arith, is)

shifted : (a b i : ℕ) → a % 65536 ≡ b % 65536 → (a + i) % 65536 ≡ (b + i) % 65536
shifted a b i same = omega (arith, same)

-- the rows of the same words, at addresses that are the same
pub same_strings : (a b : ℕ) (words : List ℕ) → a % 65536 ≡ b % 65536 → string_rows a words ≡ string_rows b words
same_strings a b words same = λ j. rows_of (λ i word. row_text (spot.Address (shifted a b i same j)) None (string_line word) [] (named.Characters word)) words

pub same_values : (a b : ℕ) (lines : List ℕ) (values : List Ival) → a % 65536 ≡ b % 65536 → value_rows a lines values ≡ value_rows b lines values
same_values a b lines values same = λ j. rows_of (λ i value. row_text (spot.Address (shifted a b i same j)) (slice_get lines i) (ival_line value) [] named.Nothing) values
