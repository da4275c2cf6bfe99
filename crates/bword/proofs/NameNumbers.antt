-- Names as numbers, which have the same order.
use Rattle.std.proofs.Common.{◌≡◌, ℕ, zero, suc, ◌+◌, ◌-◌, ◌*◌, ◌^◌, ◌<◌, ◌≤◌, true, List, [], ◌∷◌, ◌++◌, length, take, drop, replicate, refl, sym, ap, ◌∙◌, arith, w64}
use Rattle.std.proofs.Math.Nat.{mul-le-mul_right, pow-succ'}
use Rattle.std.proofs.lemmas.List.{take-append-drop}
use Rattle.std.proofs.lemmas.Bool.Decides.{nat_tests}
use Rattle.std.proofs.lemmas.Map.Lookups.{exact_bytes}
use Rattle.std.specs.Prelude.{nat_eq, nat_le}
use Rattle.std.specs.Int.{from_be_bytes}
use Rattle.std.specs.List.{list_all}
use Rattle.std.specs.Ordering.{nat_cmp, is_eq, ordering_then, ordering_reverse, MatchOrdering}
use Rattle.std.specs.Cmp.{ranks, nat_cmp_is, unsigned_ties}
use Rattle.std.specs.declared.cmp.Ordering.{Ordering}
use Rattle.std.specs.declared.cmp.Ordering.TheVariants.{Less, Equal, Greater}
use Rattle.std.specs.Cmp.Lexicographic.{pointwise, slice_cmp, nat_list_cmp_total, texts_ties}
use Rattle.std.proofs.lemmas.Bool.{and_parts}
use Rattle.bword.specs.Words.{is_name, is_name_start, is_name_byte, number_of_bytes}
use Rattle.bword.proofs.NameLemmas.{is_name-length}

-- bytes that are no zeros
abbrev pub AreBytes : List ℕ → Type 0
AreBytes [] = Unit {0}
AreBytes (b ∷ bs) = (0 < b) × (b < 256) × AreBytes bs

some_unit : (n : ℕ) → 0 < 256 ^ n
some_unit zero = omega arith
some_unit (suc n) = let more = some_unit n in omega (arith, more, pow-succ' 256 n)

pub number_of-lt : (n : ℕ) (bs : List ℕ) → AreBytes bs → number_of_bytes n bs < 256 ^ n
number_of-lt zero bs h = omega arith
number_of-lt (suc n) [] h = some_unit (suc n)
number_of-lt (suc n) (b ∷ bs) h =
    let less = number_of-lt n bs h.2 in
    let below : b ≤ 255 = let l = h.1 in omega (arith, l) in
    omega (arith, less, mul-le-mul_right (256 ^ n) below, pow-succ' 256 n)

-- what comes first is a smaller number
pub number_of_in_order : (n : ℕ) (xs ys : List ℕ) → AreBytes xs → AreBytes ys → length ys ≤ n → slice_cmp nat_cmp xs ys ≡ Less → number_of_bytes n xs < number_of_bytes n ys
number_of_in_order n [] [] h k le less = cc
number_of_in_order n (x ∷ xs) [] h k le less = cc
number_of_in_order zero [] (y ∷ ys) h k le less = absurd (omega (arith, le))
number_of_in_order zero (x ∷ xs) (y ∷ ys) h k le less = absurd (omega (arith, le))
number_of_in_order (suc n) [] (y ∷ ys) h k le less =
    let some : 1 ≤ y = let l = k.0 in omega (arith, l) in
    let unit = some_unit n in
    omega (arith, unit, mul-le-mul_right (256 ^ n) some)
number_of_in_order (suc n) (x ∷ xs) (y ∷ ys) h k le less = by (λ later. number_of_in_order n xs ys h.2 k.2 (omega (arith, le)) later) (nat_cmp x y) refl (ranks x y)
  where
    -- what the heads' order leaves to the rest
    rest : (o : Ordering) → nat_cmp x y ≡ o → ordering_then o (slice_cmp nat_cmp xs ys) ≡ Less
    rest o e = sym (ap (λ r. ordering_then r (slice_cmp nat_cmp xs ys)) e) ∙ less

    by : (slice_cmp nat_cmp xs ys ≡ Less → number_of_bytes n xs < number_of_bytes n ys) → (o : Ordering) → nat_cmp x y ≡ o → MatchOrdering o (x < y) (x ≡ y) (y < x) → number_of_bytes (suc n) (x ∷ xs) < number_of_bytes (suc n) (y ∷ ys)
    by more Less e r =
        let below = number_of-lt n xs h.2 in
        let step : x + 1 ≤ y = omega (arith, r) in
        omega (arith, below, mul-le-mul_right (256 ^ n) step)
    by more Equal e r =
        let later = more (rest Equal e) in
        omega (arith, later, ap (λ z. z * 256 ^ n) r)
    by more Greater e r = let never : Greater ≡ Less = rest Greater e in cc

byte_fits : (b : ℕ) → is_name_byte b ≡ true → (0 < b) × (b < 256)
byte_fits b e = (grind (arith, nat_tests), grind (arith, nat_tests))

start_fits : (b : ℕ) → is_name_start b ≡ true → (0 < b) × (b < 256)
start_fits b e = (grind (arith, nat_tests), grind (arith, nat_tests))

all_bytes : (bs : List ℕ) → list_all is_name_byte bs ≡ true → AreBytes bs
all_bytes [] e = tt
all_bytes (b ∷ bs) e = let h = and_parts _ _ e in let f = byte_fits b h.0 in (f.0, f.1, all_bytes bs h.1)

pub name_bytes : (bs : List ℕ) → is_name bs ≡ true → AreBytes bs
name_bytes [] e = tt
name_bytes (b ∷ bs) e =
    let h = and_parts (is_name_start b) _ e in
    let k = and_parts (nat_le (length bs) 7) _ h.1 in
    let f = start_fits b h.0 in (f.0, f.1, all_bytes bs k.1)

-- a name's number is no zero
pub some_number : (n : ℕ) (bs : List ℕ) → is_name bs ≡ true → 0 < number_of_bytes (suc n) bs
some_number n [] e = cc
some_number n (b ∷ bs) e =
    let some : 1 ≤ b = let l = (name_bytes (b ∷ bs) e).0 in omega (arith, l) in
    let unit = some_unit n in
    omega (arith, unit, mul-le-mul_right (256 ^ n) some)

-- names stand in the order of their numbers
pub number_of-cmp : (xs ys : List ℕ) → is_name xs ≡ true → is_name ys ≡ true → slice_cmp nat_cmp xs ys ≡ nat_cmp (number_of_bytes 8 xs) (number_of_bytes 8 ys)
number_of-cmp xs ys h k = nat_cmp_is (number_of_bytes 8 xs) (number_of_bytes 8 ys) (slice_cmp nat_cmp xs ys) (by (slice_cmp nat_cmp xs ys) refl)
  where
    by : (o : Ordering) → slice_cmp nat_cmp xs ys ≡ o → MatchOrdering o (number_of_bytes 8 xs < number_of_bytes 8 ys) (number_of_bytes 8 xs ≡ number_of_bytes 8 ys) (number_of_bytes 8 ys < number_of_bytes 8 xs)
    by Less e = number_of_in_order 8 xs ys (name_bytes xs h) (name_bytes ys k) (is_name-length ys k) e
    by Equal e = ap (number_of_bytes 8) (exact_bytes xs ys e)
    by Greater e = number_of_in_order 8 ys xs (name_bytes ys k) (name_bytes xs h) (is_name-length xs h) (nat_list_cmp_total.antisymm ys xs ∙ ap ordering_reverse e)

-- ---- the array's number

zeros_number : (n k : ℕ) → number_of_bytes n (replicate k 0) ≡ 0
zeros_number zero k = refl
zeros_number (suc n) zero = refl
zeros_number (suc n) (suc k) = let more = zeros_number n k in omega (arith, more)

number_of-zeros : (n : ℕ) (bs : List ℕ) (k : ℕ) → number_of_bytes n (bs ++ replicate k 0) ≡ number_of_bytes n bs
number_of-zeros zero bs k = refl
number_of-zeros (suc n) [] k = zeros_number (suc n) k
number_of-zeros (suc n) (b ∷ bs) k = ap (λ m. b * 256 ^ n + m) (number_of-zeros n bs k)

eight : (bs : List ℕ) → length bs ≡ 8 → from_be_bytes w64 bs ≡ number_of_bytes 8 bs
eight (a ∷ b ∷ c ∷ d ∷ e ∷ f ∷ g ∷ h ∷ []) size = omega arith
eight _ size = absurd (omega (arith, size))

-- of an array, of which the bytes after the name are zeros
pub array_number : (bs : List ℕ) (n : ℕ) → length bs ≡ 8 → drop n bs ≡ replicate (8 - n) 0 → from_be_bytes w64 bs ≡ number_of_bytes 8 (take n bs)
array_number bs n size zeros =
    eight bs size
    ∙ ap (number_of_bytes 8) (sym (take-append-drop n bs) ∙ ap (λ l. take n bs ++ l) zeros)
    ∙ number_of-zeros 8 (take n bs) (8 - n)

-- names with the same number are the same
pub number_of-eq : (xs ys : List ℕ) → is_name xs ≡ true → is_name ys ≡ true → nat_eq (number_of_bytes 8 xs) (number_of_bytes 8 ys) ≡ pointwise nat_eq xs ys
number_of-eq xs ys h k =
    unsigned_ties (number_of_bytes 8 xs) (number_of_bytes 8 ys)
    ∙ sym (texts_ties xs ys ∙ ap is_eq (number_of-cmp xs ys h k))
