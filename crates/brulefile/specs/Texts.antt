-- Promise: the words of a line.
use Rattle.std.specs.Prelude.{ℕ, ◌==◌, ◌||◌, Bool, not, List, length, take, drop, position, unwrap_or}

abbrev pub is_blank : ℕ → Bool
is_blank b = b == 32 || (b == 9 || b == 13)

-- how many bytes stand before a blank or the end
abbrev pub word_len : List ℕ → ℕ
word_len bs = unwrap_or (position is_blank bs) (length bs)

abbrev pub first_word : List ℕ → List ℕ
first_word bs = take (word_len bs) bs

abbrev pub blanks : List ℕ → ℕ
blanks bs = unwrap_or (position (λ b. not (is_blank b)) bs) (length bs)

abbrev pub after_blanks : List ℕ → List ℕ
after_blanks bs = drop (blanks bs) bs

-- what stands after the first word and the blanks after it
abbrev pub after_word : List ℕ → List ℕ
after_word bs = after_blanks (drop (word_len bs) bs)
