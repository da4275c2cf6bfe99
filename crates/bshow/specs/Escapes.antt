-- Promise: a text within a page, which ends no string of JSON and is no mark of HTML, and how it reads back.
use Rattle.std.specs.Prelude.{◌≡◌, ℕ, ◌+◌, ◌*◌, ◌<◌, ◌==◌, ◌&&◌, ◌||◌, Bool, not, IsTrue, List, [], ◌∷◌, ◌++◌}
use Rattle.std.specs.Prelude.{All, length, nat_lt, slice_index, if◌then◌else◌}
use Rattle.std.specs.Char.{digit_value}
use Rattle.std.specs.List.{flat_map, list_all}
use Rattle.btools.specs.Characters.{is_printable}
use Rattle.btools.specs.Quoting.{coded}

-- the bytes " & < > \
abbrev pub is_mark : ℕ → Bool
is_mark b = (b == 34) || (b == 38) || (b == 60) || (b == 62) || (b == 92)

-- A printable byte of ASCII that is no mark stands for itself.
abbrev pub escape : ℕ → List ℕ
escape b = if is_mark b then coded b else (if is_printable b then b ∷ [] else coded b)

abbrev pub escaped : List ℕ → List ℕ
escaped bytes = flat_map escape bytes

-- the byte of an escape without its last digit, and that digit
abbrev pub code_value : List ℕ → (last : ℕ) → ℕ
code_value front last = 16 * digit_value (slice_index front 4) + digit_value last

-- The text that a text with escapes stands for, after so much of an escape: it begins with \ and has six characters.
abbrev pub unescaped_after : (front : List ℕ) → List ℕ → List ℕ
unescaped_after front [] = []
unescaped_after [] (b ∷ bs) = if b == 92 then unescaped_after (b ∷ []) bs else b ∷ unescaped_after [] bs
unescaped_after (f ∷ fs) (b ∷ bs) =
    if nat_lt (length (f ∷ fs)) 5 then unescaped_after ((f ∷ fs) ++ b ∷ []) bs
    else code_value (f ∷ fs) b ∷ unescaped_after [] bs

abbrev pub unescaped : List ℕ → List ℕ
unescaped text = unescaped_after [] text

-- a character that ends no string and is no mark: a backslash begins an escape
abbrev pub is_safe : ℕ → Bool
is_safe c = is_printable c && (c == 92 || not (is_mark c))

-- Any bytes, escaped, stay in their place and read back.
pub record StaysInPlace : Type 0 where
  pub safe : (bytes : List ℕ) → All (λ b. b < 256) bytes → IsTrue (list_all is_safe (escaped bytes))
  pub reads_back : (bytes : List ℕ) → All (λ b. b < 256) bytes → unescaped (escaped bytes) ≡ bytes
