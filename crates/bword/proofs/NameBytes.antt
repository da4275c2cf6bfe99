-- The bytes of numbers that names are made from.
use Rattle.std.proofs.Common.{◌≡◌, ℕ, zero, suc, ◌+◌, ◌-◌, ◌*◌, ◌/◌, ◌%◌, ◌^◌, ◌<◌, ◌≤◌, List, [], ◌∷◌, ◌++◌, length, take, drop, replicate, true, IsTrue, refl, sym, ap, ◌∙◌, arith, append_assoc, append-nil}
use Rattle.std.proofs.Math.Nat.{div-div-eq-div-mul, pow-succ', mul_assoc}
use Rattle.std.proofs.lemmas.Nat.{div-mul-add}
use Rattle.std.proofs.Math.Seq.{drop-append_seam, take-append_seam}
use Rattle.std.specs.Int.{byte_at, bytes_high_first}
use Rattle.bword.specs.Words.{is_name}
use Rattle.bword.proofs.NameLemmas.{is_name-length}

byte_next : (i n b : ℕ) → b < 256 → byte_at (suc i) (n * 256 + b) ≡ byte_at i n
byte_next zero n b h = omega arith
byte_next (suc i) n b h =
    let parts : (n * 256 + b) / (256 * 256 ^ suc i) ≡ n / 256 ^ suc i = sym (div-div-eq-div-mul (n * 256 + b) 256 (256 ^ suc i)) ∙ ap (λ q. q / 256 ^ suc i) (div-mul-add n 256 b h) in
    ap (λ d. (n * 256 + b) / d % 256) (pow-succ' 256 (suc i)) ∙ ap (λ q. q % 256) parts

-- one more byte after those of a number
pub bytes_next : (k n b : ℕ) → b < 256 → bytes_high_first (suc k) (n * 256 + b) ≡ bytes_high_first k n ++ b ∷ []
bytes_next zero n b h = let last : (n * 256 + b) % 256 ≡ b = omega arith in ap (λ y. y ∷ []) last
bytes_next (suc k) n b h = rw (byte_next k n b h, bytes_next k n b h) refl

byte_wraps : (i n : ℕ) → i < 8 → byte_at i (n % 2 ^ 64) ≡ byte_at i n
byte_wraps (suc (suc (suc (suc (suc (suc (suc (suc i)))))))) n h = absurd (omega (arith, h))
byte_wraps _ n h = omega arith

-- the lowest eight bytes of a number are in a word of 64 bits
pub bytes_wrap : (k n : ℕ) → k ≤ 8 → bytes_high_first k (n % 2 ^ 64) ≡ bytes_high_first k n
bytes_wrap zero n h = refl
bytes_wrap (suc k) n h = rw (byte_wraps k n (omega (arith, h)), bytes_wrap k n (omega (arith, h))) refl

-- zeros after the bytes of a number
bytes_zeros : (j k n : ℕ) → bytes_high_first (k + j) (n * 256 ^ j) ≡ bytes_high_first k n ++ replicate j 0
bytes_zeros zero k n =
    let size : k + 0 ≡ k = omega arith in
    let same : n * 256 ^ 0 ≡ n = omega arith in
    rw (size, same, append-nil) refl
bytes_zeros (suc j) k n =
    let size : k + suc j ≡ suc k + j = omega arith in
    let zero_more : n * 256 ≡ n * 256 + 0 = omega arith in
    let same : n * 256 ^ suc j ≡ (n * 256 + 0) * 256 ^ j = ap (λ m. n * m) (pow-succ' 256 j) ∙ sym (mul_assoc n 256 (256 ^ j)) ∙ ap (λ m. m * 256 ^ j) zero_more in
    rw (size, same) (bytes_zeros j (suc k) (n * 256 + 0) ∙ ap (λ l. l ++ replicate j 0) (bytes_next k n 0 (omega arith)) ∙ append_assoc (bytes_high_first k n) (0 ∷ []) (replicate j 0))

-- a name's bytes from the top of a word of 64 bits on
pub bytes_at_top : (k n : ℕ) → 1 ≤ k → k ≤ 8 → bytes_high_first 8 (n * 2 ^ (64 - 8 * k) % 2 ^ 64) ≡ bytes_high_first k n ++ replicate (8 - k) 0
bytes_at_top zero n l h = absurd (omega (arith, l))
bytes_at_top (suc zero) n l h = bytes_wrap 8 _ (omega arith) ∙ bytes_zeros 7 1 n
bytes_at_top (suc (suc zero)) n l h = bytes_wrap 8 _ (omega arith) ∙ bytes_zeros 6 2 n
bytes_at_top (suc (suc (suc zero))) n l h = bytes_wrap 8 _ (omega arith) ∙ bytes_zeros 5 3 n
bytes_at_top (suc (suc (suc (suc zero)))) n l h = bytes_wrap 8 _ (omega arith) ∙ bytes_zeros 4 4 n
bytes_at_top (suc (suc (suc (suc (suc zero))))) n l h = bytes_wrap 8 _ (omega arith) ∙ bytes_zeros 3 5 n
bytes_at_top (suc (suc (suc (suc (suc (suc zero)))))) n l h = bytes_wrap 8 _ (omega arith) ∙ bytes_zeros 2 6 n
bytes_at_top (suc (suc (suc (suc (suc (suc (suc zero))))))) n l h = bytes_wrap 8 _ (omega arith) ∙ bytes_zeros 1 7 n
bytes_at_top (suc (suc (suc (suc (suc (suc (suc (suc zero)))))))) n l h = bytes_wrap 8 _ (omega arith) ∙ bytes_zeros 0 8 n
bytes_at_top (suc (suc (suc (suc (suc (suc (suc (suc (suc k))))))))) n l h = absurd (omega (arith, h))

pub length-bytes_high_first : (k n : ℕ) → length (bytes_high_first k n) ≡ k
length-bytes_high_first zero n = refl
length-bytes_high_first (suc k) n = let more = length-bytes_high_first k n in omega (arith, more)

at_least_one : (k n : ℕ) → is_name (bytes_high_first k n) ≡ true → 1 ≤ k
at_least_one zero n e = cc
at_least_one (suc k) n e = omega arith

at_most_eight : (k n : ℕ) → is_name (bytes_high_first k n) ≡ true → k ≤ 8
at_most_eight k n e = let size = is_name-length (bytes_high_first k n) e in omega (arith, size, length-bytes_high_first k n)

at_top : (k n : ℕ) (bs : List ℕ) → is_name (bytes_high_first k n) ≡ true → bs ≡ bytes_high_first 8 (n * 2 ^ (64 - 8 * k) % 2 ^ 64)
    → bs ≡ bytes_high_first k n ++ replicate (8 - k) 0
at_top k n bs e f = f ∙ bytes_at_top k n (at_least_one k n e) (at_most_eight k n e)

take_those : (xs ys : List ℕ) (k : ℕ) → length xs ≡ k → take k (xs ++ ys) ≡ xs
take_those xs ys k e = rw (← e) (take-append_seam xs ys)

drop_those : (xs ys : List ℕ) (k : ℕ) → length xs ≡ k → drop k (xs ++ ys) ≡ ys
drop_those xs ys k e = rw (← e) (drop-append_seam xs ys)

-- the array of a name that is made from a number
pub number_name : (k n : ℕ) (bs : List ℕ) → is_name (bytes_high_first k n) ≡ true → bs ≡ bytes_high_first 8 (n * 2 ^ (64 - 8 * k) % 2 ^ 64)
    → take k bs ≡ bytes_high_first k n
number_name k n bs e f = ap (take k) (at_top k n bs e f) ∙ take_those (bytes_high_first k n) (replicate (8 - k) 0) k (length-bytes_high_first k n)

pub number_array : (k n : ℕ) (bs : List ℕ) → is_name (bytes_high_first k n) ≡ true → bs ≡ bytes_high_first 8 (n * 2 ^ (64 - 8 * k) % 2 ^ 64)
    → (k ≤ 8) × (length bs ≡ 8) × (drop k bs ≡ replicate (8 - k) 0) × IsTrue (is_name (take k bs))
number_array k n bs e f = (
  at_most_eight k n e,
  ap length f,
  ap (drop k) (at_top k n bs e f) ∙ drop_those (bytes_high_first k n) (replicate (8 - k) 0) k (length-bytes_high_first k n),
  rw (number_name k n bs e f) e,
)
