-- Inner words: bytes shown as characters, and words as numbers.
use Rattle.std.specs.Prelude.{ℕ, ◌==◌, ◌/◌, ◌%◌, ◌&&◌, Bool, List, [], ◌∷◌, ◌++◌, codes, nat_le, nat_lt, if◌then◌else◌}
use Rattle.blang.specs.Layout.{printed}

-- a printable character of ASCII
abbrev pub is_printable : ℕ → Bool
is_printable b = nat_le 32 b && nat_le b 126

-- a character, or the escape that stands for it; `.` for a byte that has none
abbrev pub shown_byte : ℕ → List ℕ
shown_byte b = if b == 10 then codes "*n"
    else (if b == 9 then codes "*t"
    else (if b == 42 then codes "**"
    else (if b == 0 then codes "*0"
    else (if b == 4 then codes "*e"
    else (if is_printable b then b ∷ [] else codes ".")))))

-- the high byte of a word, or nothing where it is zero
abbrev pub shown_high : ℕ → List ℕ
shown_high word = if nat_lt word 256 then [] else shown_byte (word / 256)

-- a word as characters between quotes, its low byte first
abbrev pub shown_word : ℕ → List ℕ
shown_word word = codes "'" ++ shown_byte (word % 256) ++ shown_high word ++ codes "'"

-- a word as `printn` writes it to the base 10
abbrev pub signed_text : ℕ → List ℕ
signed_text word = printed word 10
