-- Promise: which escape of this language stands for one of an old source.
use Rattle.std.specs.Prelude.{ℕ, ◌+◌, ◌*◌, ◌-◌, ◌==◌, ◌&&◌, Bool, true, false, List, [], ◌∷◌, ◌++◌, Option}
use Rattle.std.specs.Prelude.{Some, None, if◌then◌else◌, is_some, length, nat_lt}
use Rattle.std.specs.Int.{is_in_range}

-- a byte is a digit of an octal number
abbrev pub is_octal : ℕ → Bool
is_octal b = is_in_range 48 55 b

-- the number that these three digits stand for
abbrev pub octal_number : (first middle last : ℕ) → Option ℕ
octal_number a b c =
    if is_octal a && is_octal b && is_octal c then Some (64 * (a - 48) + (8 * (b - 48) + (c - 48))) else None

-- the number that up to three digits stand for
abbrev pub octal_value : List ℕ → Option ℕ
octal_value (c ∷ []) = octal_number 48 48 c
octal_value (b ∷ c ∷ []) = octal_number 48 b c
octal_value (a ∷ b ∷ c ∷ []) = octal_number a b c
octal_value _ = None

-- the escape that stands here for a byte: `*n`, `*t` or `*0`
abbrev pub byte_escape : ℕ → List ℕ
byte_escape b =
    if b == 10 then 42 ∷ 110 ∷ [] else (if b == 9 then 42 ∷ 116 ∷ [] else (if b == 0 then 42 ∷ 48 ∷ [] else []))

-- the escape that stands here for what a backslash and this byte stand for
abbrev pub escape_of : ℕ → List ℕ
escape_of b =
    if b == 110 then 42 ∷ 110 ∷ []
    else (if b == 116 then 42 ∷ 116 ∷ []
    else (if b == 34 then 42 ∷ 34 ∷ []
    else (if b == 39 then 42 ∷ 39 ∷ []
    else (if b == 92 then 92 ∷ [] else []))))

abbrev pub letter_escape : List ℕ → List ℕ
letter_escape (b ∷ []) = escape_of b
letter_escape _ = []

-- that for a number after a backslash, or this one
abbrev pub numbered_or : Option ℕ → (otherwise : List ℕ) → List ℕ
numbered_or (Some b) otherwise = byte_escape b
numbered_or None otherwise = otherwise

abbrev pub backslash_escape : List ℕ → List ℕ
backslash_escape escape = numbered_or (octal_value escape) (letter_escape escape)

-- the escape for one in capitals, `*N`, `*T` or `*E`, and what stands for two stars that are two characters
abbrev pub capital_escape : ℕ → List ℕ
capital_escape b =
    if b == 78 then 42 ∷ 110 ∷ []
    else (if b == 84 then 42 ∷ 116 ∷ []
    else (if b == 69 then 42 ∷ 101 ∷ [] else (if b == 42 then 42 ∷ 42 ∷ 42 ∷ 42 ∷ [] else [])))

-- an escape, after two stars for one that stands for itself
abbrev pub escaped : (is_starred : Bool) → List ℕ → List ℕ
escaped is_starred [] = []
escaped is_starred (b ∷ bs) = (if is_starred then 42 ∷ 42 ∷ [] else []) ++ b ∷ bs

-- What stands here for a `*` and these bytes: one that begins no escape stands for itself by another one, also before
-- an escape with a backslash, and so does each of two.
abbrev pub star_escape : List ℕ → List ℕ
star_escape [] = 42 ∷ 42 ∷ []
star_escape (b ∷ []) = capital_escape b
star_escape (b ∷ bs) = if b == 92 then escaped true (backslash_escape bs) else []

-- the escape that stands here for these bytes in quotes
abbrev pub escape_for : List ℕ → List ℕ
escape_for [] = []
escape_for (mark ∷ escape) =
    if mark == 92 then backslash_escape escape else (if mark == 42 then star_escape escape else [])

-- the byte after these is one more digit of the number that they are
abbrev pub is_cut_number : (old : List ℕ) → (next : ℕ) → Bool
is_cut_number [] next = false
is_cut_number (mark ∷ digits) next =
    (mark == 92) && (is_octal next && (nat_lt (length digits) 3 && is_some (octal_value digits)))

-- the same, also after a `*` that stands for itself
abbrev pub is_cut_short : (old : List ℕ) → (next : Option ℕ) → Bool
is_cut_short (mark ∷ rest) (Some next) = is_cut_number (if mark == 42 then rest else mark ∷ rest) next
is_cut_short old next = false
