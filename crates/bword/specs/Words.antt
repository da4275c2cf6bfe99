-- Promise: words of 16 bits are the numbers from 0 to 65535, and each operation is one on whole numbers, whose result
-- is taken modulo 65536. The operators, the words of a store with the bytes of its strings, and the names of the
-- language.
use Rattle.std.specs.Prelude.{ℕ, ◌+◌, ◌*◌, ◌/◌, ◌%◌, ◌^◌, Bool, not, Option, Some, None, nat_lt, ◌==◌, if◌then◌else◌}
use Rattle.std.specs.Prelude.{bit_and, bit_or, ℤ, pos, neg_ℤ, ◌-ℤ◌, unsigned_abs, int_lt, int_le, int_div, int_rem}
use Rattle.std.specs.Prelude.{List, [], ◌∷◌, codes, ◌≡◌, ◌<◌, length, replicate, slice_index, slice_set, zero, suc, ◌-◌}
use Rattle.std.specs.Prelude.{◌≤◌, false, ◌&&◌, ◌||◌, nat_eq, nat_le, ◌++◌, take, drop}
use Rattle.std.specs.Int.{int_rem_euclid}
use Rattle.bword.specs.declared.operators.BinOp.{BinOp}
use Rattle.bword.specs.declared.operators.BinOp.TheVariants as op
use Rattle.std.proofs.Common.{arith, length-take-le, take-append-drop}
use Rattle.std.specs.Char.{is_ascii_alphabetic, is_ascii_alphanumeric}
use Rattle.std.specs.List.{list_all}
use Rattle.std.specs.Cmp.Lexicographic.{pointwise}

-- the word of a whole number
abbrev pub word_of : ℤ → ℕ
word_of z = unsigned_abs (int_rem_euclid z (pos 65536))

-- a word as a signed number: one above 32767 is read as that number less 65536
abbrev pub signed_of : ℕ → ℤ
signed_of a = if nat_lt 32767 a then pos a -ℤ pos 65536 else pos a

-- 1 if it is so, else 0
abbrev pub flag_of : Bool → ℕ
flag_of b = if b then 1 else 0

-- Division rounds toward zero, and the remainder has the sign of the dividend.
abbrev pub quotient_of : ℕ → ℕ → Option ℕ
quotient_of a b = if b == 0 then None else Some (word_of (int_div (signed_of a) (signed_of b)))

abbrev pub remainder_of : ℕ → ℕ → Option ℕ
remainder_of a b = if b == 0 then None else Some (word_of (int_rem (signed_of a) (signed_of b)))

-- what a binary operator makes of two words: none where it divides by zero
abbrev pub binary_of : BinOp → ℕ → ℕ → Option ℕ
binary_of op.Or a b = Some (bit_or a b)
binary_of op.And a b = Some (bit_and a b)
binary_of op.Eq a b = Some (flag_of (a == b))
binary_of op.Ne a b = Some (flag_of (not (a == b)))
binary_of op.Lt a b = Some (flag_of (int_lt (signed_of a) (signed_of b)))
binary_of op.Le a b = Some (flag_of (int_le (signed_of a) (signed_of b)))
binary_of op.Gt a b = Some (flag_of (int_lt (signed_of b) (signed_of a)))
binary_of op.Ge a b = Some (flag_of (int_le (signed_of b) (signed_of a)))
binary_of op.Shl a b = Some (a * 2 ^ b % 65536)
binary_of op.Shr a b = Some (a / 2 ^ b)
binary_of op.Sub a b = Some (word_of (pos a -ℤ pos b))
binary_of op.Add a b = Some ((a + b) % 65536)
binary_of op.Rem a b = remainder_of a b
binary_of op.Mul a b = Some (a * b % 65536)
binary_of op.Div a b = quotient_of a b

-- the unary operators `-` and `!`
abbrev pub negate_of : ℕ → ℕ
negate_of a = word_of (neg_ℤ (pos a))

abbrev pub not_of : ℕ → ℕ
not_of a = flag_of (a == 0)

abbrev pub operator_text : BinOp → List ℕ
operator_text op.Or = codes "|"
operator_text op.And = codes "&"
operator_text op.Eq = codes "=="
operator_text op.Ne = codes "!="
operator_text op.Lt = codes "<"
operator_text op.Le = codes "<="
operator_text op.Gt = codes ">"
operator_text op.Ge = codes ">="
operator_text op.Shl = codes "<<"
operator_text op.Shr = codes ">>"
operator_text op.Sub = codes "-"
operator_text op.Add = codes "+"
operator_text op.Rem = codes "%"
operator_text op.Mul = codes "*"
operator_text op.Div = codes "/"

-- the fifteen
abbrev pub operators : List BinOp
operators =
    op.Or ∷ op.And ∷ op.Eq ∷ op.Ne ∷ op.Lt ∷ op.Le ∷ op.Gt ∷ op.Ge ∷ op.Shl ∷ op.Shr ∷ op.Sub ∷ op.Add ∷
    op.Rem ∷ op.Mul ∷ op.Div ∷ []

-- 65536 words, each below 65536
pub record IsStore (words : List ℕ) : Type 0 where
  pub count : length words ≡ 65536
  pub below : (a : ℕ) → slice_index words a < 65536

-- 65536 times the word 0
unfoldable pub zeros : List ℕ
zeros = replicate 65536 0

-- the address of the word that holds the byte with index i of the string at s
abbrev pub byte_address : ℕ → ℕ → ℕ
byte_address s i = (s + i / 2) % 65536

-- the byte with index i in its word: the low one where i is even, else the high one
abbrev pub byte_of : ℕ → ℕ → ℕ
byte_of i word = if i % 2 == 0 then word % 256 else word / 256

-- the word with the low byte of c in that place
abbrev pub with_byte : ℕ → ℕ → ℕ → ℕ
with_byte i word c = if i % 2 == 0 then word / 256 * 256 + c % 256 else c % 256 * 256 + word % 256

-- the byte with index i of the string at s
abbrev pub char_of : List ℕ → ℕ → ℕ → ℕ
char_of words s i = byte_of i (slice_index words (byte_address s i))

-- the words with the low byte of c there
abbrev pub with_char : List ℕ → ℕ → ℕ → ℕ → List ℕ
with_char words s i c = slice_set words (byte_address s i) (with_byte i (slice_index words (byte_address s i)) c)

-- whether two names are the same
abbrev pub same_name : List ℕ → List ℕ → Bool
same_name x y = pointwise nat_eq x y

-- a letter or an underscore
abbrev pub is_name_start : ℕ → Bool
is_name_start b = is_ascii_alphabetic b || (b == 95)

-- the same or a digit
abbrev pub is_name_byte : ℕ → Bool
is_name_byte b = is_ascii_alphanumeric b || (b == 95)

-- one to eight letters, digits and underscores, the first no digit
abbrev pub is_name : List ℕ → Bool
is_name [] = false
is_name (b ∷ bs) = is_name_start b && (nat_le (length bs) 7 && list_all is_name_byte bs)

-- the number of n bytes, the first of which counts most; those after the last are zeros
abbrev pub number_of_bytes : ℕ → List ℕ → ℕ
number_of_bytes zero bs = 0
number_of_bytes (suc n) [] = 0
number_of_bytes (suc n) (b ∷ bs) = b * 256 ^ n + number_of_bytes n bs

-- The bytes of an array of eight are its first n and zeros, where the rest are zeros.
pub name_len_inverse : (xs : List ℕ) (n : ℕ) → n ≤ 8 → length xs ≡ 8 → length (take n xs) ≡ n
name_len_inverse xs n h e = length-take-le n xs (omega arith)

pub name_inverse : (xs : List ℕ) (n : ℕ) → n ≤ 8 → length xs ≡ 8 → drop n xs ≡ replicate (8 - n) 0
    → take n xs ++ replicate (8 - length (take n xs)) 0 ≡ xs
name_inverse xs n h e zeros = rw (name_len_inverse xs n h e, ← zeros) (take-append-drop n xs)
