-- What is read as a part of a line is its text, and its text is read as it.
use Rattle.std.proofs.Common.{◌≡◌, ℕ, ◌+◌, ◌*◌, ◌-◌, ◌/◌, ◌%◌, ◌^◌, ◌<◌, ◌≤◌, Bool, true, false, cond, eqb, ltb, List, [], ◌∷◌, ◌++◌, length, take, drop, get_or, decimal, Option, Some, None, refl, sym, ap, ◌∙◌, arith, append_assoc, length-append, IsTrue}
use Rattle.std.specs.Char.{is_ascii_digit}
use Rattle.std.proofs.Math.Seq.{take-append_seam, drop-append-add}
use Rattle.std.proofs.lemmas.List.{take-append-drop, drop_more}
use Rattle.std.proofs.lemmas.List.Quantifiers.{position-Some}
use Rattle.std.specs.List.{position, prefix_len, list_all}
use Rattle.std.specs.Prelude.{◌==◌, not}
use Rattle.std.proofs.lemmas.Bool.{false≢true, and_parts, eqb-true, ltb-true}
use Rattle.std.proofs.lemmas.Bool.Decides.{nat_tests}
use Rattle.std.proofs.lemmas.Fmt.{decimal_digit, decimal_step, decimal_by_steps}
use Rattle.bword.specs.Words.{is_name, is_name_start, is_name_byte}
use Rattle.bcode.specs.Reading.{◌>>=◌, expect_byte, number_from, number_at, name_text_at}

pub bind_some : {A B : Type 0} (o : Option A) (f : A → Option B) (y : B) → (o >>= f) ≡ Some y → (x : A) × (o ≡ Some x) × (f x ≡ Some y)
bind_some (Some x) f y e = (x, refl, e)
bind_some None f y e = absurd (cc)

-- what was read, and what is left
pub same_read : {A B : Type 0} (x y : A × B) → Some x ≡ Some y → (x.0 ≡ y.0) × (x.1 ≡ y.1)
same_read x y e = let same : x ≡ y = cc in (ap (λ p. p.0) same, ap (λ p. p.1) same)

digit_range : (b : ℕ) → is_ascii_digit b ≡ true → (48 ≤ b) × (b ≤ 57)
digit_range b e = (grind (arith, nat_tests), grind (arith, nat_tests))

pub only_if : {X : Type 0} (b : Bool) (x : Option X) (y : X) → cond b x None ≡ Some y → (b ≡ true) × (x ≡ Some y)
only_if true x y e = (refl, e)
only_if false x y e = absurd (cc)

pub expect-sound : (byte : ℕ) (bytes rest : List ℕ) → expect_byte byte bytes ≡ Some rest → bytes ≡ byte ∷ rest
unfolding expect_byte
expect-sound byte [] rest e = absurd (cc)
expect-sound byte (b ∷ bs) rest e =
    let h = only_if (eqb b byte) (Some bs) rest e in let same = eqb-true b byte h.0 in cc

eqb-same : (n : ℕ) → eqb n n ≡ true
eqb-same n = grind (arith, nat_tests)

pub expect-again : (byte : ℕ) (rest : List ℕ) → expect_byte byte (byte ∷ rest) ≡ Some rest
unfolding expect_byte
expect-again byte rest = rw (eqb-same byte) refl

-- one more digit
decimal_more : (v d : ℕ) → 0 < v → v < 2 ^ 16 → d ≤ 9 → decimal (v * 10 + d) ≡ decimal v ++ (48 + d) ∷ []
decimal_more v d some small digit =
    let ten : 10 ≤ v * 10 + d = omega arith in
    let fits : v * 10 + d < 2 ^ 64 = omega arith in
    let front : (v * 10 + d) / 10 ≡ v = omega arith in
    let last : (v * 10 + d) % 10 ≡ d = omega arith in
    decimal_step (v * 10 + d) ten fits ∙ rw (front, last) refl

module _ (end below : ℕ) where
  number_from-step : (b : ℕ) (bs : List ℕ) (v n : ℕ) (rest : List ℕ) → v < 2 ^ 16
      → (v * 10 + (b - 48) < 2 ^ 16 → number_from end below (v * 10 + (b - 48)) bs ≡ Some (n, rest)
      → (n < below) × (decimal (v * 10 + (b - 48)) ++ bs ≡ decimal n ++ end ∷ rest))
      → (is_end is_zero : Bool) → eqb b end ≡ is_end → eqb v 0 ≡ is_zero
      → cond is_end (cond (ltb v below) (Some (v, bs)) None) (cond is_zero None
      (cond (is_ascii_digit b) (cond (ltb (v * 10 + (b - 48)) (2 ^ 16)) (number_from end below (v * 10 + (b - 48)) bs) None) None)) ≡ Some (n, rest)
      → (n < below) × (decimal v ++ b ∷ bs ≡ decimal n ++ end ∷ rest)
  number_from-step b bs v n rest small further true is_zero ends zero e =
      let h = only_if (ltb v below) (Some (v, bs)) (n, rest) e in
      let same = eqb-true b end ends in
      let read = same_read (v, bs) (n, rest) h.1 in
      let less = ltb-true v below h.0 in
      (rw (← read.0) less, ap (λ x. decimal v ++ x ∷ bs) same ∙ ap (λ l. decimal v ++ end ∷ l) read.1 ∙ ap (λ m. decimal m ++ end ∷ rest) read.0)
  number_from-step b bs v n rest small further false true ends zero e = absurd (cc)
  number_from-step b bs v n rest small further false false ends zero e =
      let h = only_if (is_ascii_digit b) _ (n, rest) e in
      let k = only_if (ltb (v * 10 + (b - 48)) (2 ^ 16)) _ (n, rest) h.1 in
      let range = digit_range b h.0 in
      let less = ltb-true (v * 10 + (b - 48)) (2 ^ 16) k.0 in
      let some : 0 < v = grind (arith, nat_tests) in
      let digit : b - 48 ≤ 9 = omega arith in
      let same : 48 + (b - 48) ≡ b = omega arith in
      let more : decimal (v * 10 + (b - 48)) ≡ decimal v ++ b ∷ [] = decimal_more v (b - 48) some small digit ∙ rw same refl in
      let step = further less k.1 in
      (step.0, sym (append_assoc (decimal v) (b ∷ []) bs) ∙ ap (λ l. l ++ bs) (sym more) ∙ step.1)

  pub number_from-sound : (bytes : List ℕ) (v n : ℕ) (rest : List ℕ) → v < 2 ^ 16 → number_from end below v bytes ≡ Some (n, rest)
      → (n < below) × (decimal v ++ bytes ≡ decimal n ++ end ∷ rest)
  unfolding number_from
  number_from-sound [] v n rest small e = absurd (cc)
  number_from-sound (b ∷ bs) v n rest small e =
      number_from-step b bs v n rest small (number_from-sound bs (v * 10 + (b - 48)) n rest) (eqb b end) (eqb v 0) refl refl e

  pub number_at-sound : (bytes : List ℕ) (n : ℕ) (rest : List ℕ) → number_at end below bytes ≡ Some (n, rest)
      → (n < below) × (bytes ≡ decimal n ++ end ∷ rest)
  unfolding number_at
  number_at-sound [] n rest e = absurd (cc)
  number_at-sound (b ∷ bs) n rest e =
      let h = only_if (is_ascii_digit b) _ (n, rest) e in
      let range = digit_range b h.0 in
      let step = number_from-sound bs (b - 48) n rest (omega arith) h.1 in
      let same : 48 + (b - 48) ≡ b = omega arith in
      let first : decimal (b - 48) ≡ b ∷ [] = decimal_digit (b - 48) (omega arith) ∙ rw same refl in
      (step.0, ap (λ l. l ++ bs) (sym first) ∙ step.1)

  module _ (not_digit : is_ascii_digit end ≡ false) where
    digit_not_end : (d : ℕ) → d ≤ 9 → eqb (48 + d) end ≡ false
    digit_not_end d small = grind (arith, nat_tests)

    is_digit : (d : ℕ) → d ≤ 9 → is_ascii_digit (48 + d) ≡ true
    is_digit d small = grind (arith, nat_tests)

    number_from-digit : (v d : ℕ) (rest : List ℕ) → 0 < v → d ≤ 9 → v * 10 + d < 2 ^ 16
        → number_from end below v ((48 + d) ∷ rest) ≡ number_from end below (v * 10 + d) rest
    unfolding number_from
    number_from-digit v d rest some small fits =
        let value : 48 + d - 48 ≡ d = omega arith in
        let not_zero : eqb v 0 ≡ false = grind (arith, nat_tests) in
        let less : ltb (v * 10 + d) (2 ^ 16) ≡ true = grind (arith, nat_tests) in
        rw (digit_not_end d small, not_zero, is_digit d small, value, less) refl

    -- the digits of a number, whatever stands after them
    ReadsOn : ℕ → List ℕ → Type 0
    ReadsOn n ds = n < 2 ^ 16 → (rest : List ℕ) → number_at end below (ds ++ rest) ≡ number_from end below n rest

    reads_digit : (n : ℕ) → n < 10 → ReadsOn n ((48 + n) ∷ [])
    unfolding number_at ReadsOn
    reads_digit n small fits rest =
        let value : 48 + n - 48 ≡ n = omega arith in
        rw (is_digit n (omega arith), value) refl

    reads_more : (n : ℕ) (ds : List ℕ) → 10 ≤ n → ReadsOn (n / 10) ds → ReadsOn n (ds ++ (48 + n % 10) ∷ [])
    unfolding ReadsOn
    reads_more n ds large before fits rest =
        let value : n / 10 * 10 + n % 10 ≡ n = omega arith in
        ap (number_at end below) (append_assoc ds ((48 + n % 10) ∷ []) rest)
        ∙ before (omega arith) ((48 + n % 10) ∷ rest)
        ∙ number_from-digit (n / 10) (n % 10) rest (omega arith) (omega arith) (omega arith)
        ∙ ap (λ v. number_from end below v rest) value

    reads_decimal : (n : ℕ) → n < 2 ^ 16 → (rest : List ℕ) → number_at end below (decimal n ++ rest) ≡ number_from end below n rest
    unfolding ReadsOn
    reads_decimal n fits = decimal_by_steps ReadsOn reads_digit reads_more n (omega arith) fits

    pub number_at-again : (n : ℕ) (rest : List ℕ) → n < 2 ^ 16 → n < below → number_at end below (decimal n ++ end ∷ rest) ≡ Some (n, rest)
    unfolding number_from
    number_at-again n rest fits less =
        let test : ltb n below ≡ true = grind (arith, nat_tests) in
        reads_decimal n fits (end ∷ rest) ∙ rw (eqb-same end, test) refl

pub name_at-sound : (end : ℕ) (bytes name rest : List ℕ) → name_text_at end bytes ≡ Some (name, rest) → IsTrue (is_name name) × (bytes ≡ name ++ end ∷ rest)
unfolding name_text_at
name_at-sound end bytes name rest e =
    let found = bind_some (position (λ b. b == end) bytes) _ (name, rest) e in
    let n = found.0 in
    let named = only_if (is_name (take n bytes)) _ (name, rest) found.2 in
    let read = same_read (take n bytes, drop (n + 1) bytes) (name, rest) named.1 in
    let there = position-Some (λ b. b == end) bytes n 0 found.1 in
    let same = eqb-true (get_or bytes n 0) end there.1 in
    let all : bytes ≡ take n bytes ++ end ∷ drop (n + 1) bytes =
    sym (take-append-drop n bytes) ∙ ap (λ l. take n bytes ++ l) (drop_more bytes n 0 there.0 ∙ ap (λ b. b ∷ drop (n + 1) bytes) same) in
    (rw (← read.0) named.0, all ∙ ap (λ l. l ++ end ∷ drop (n + 1) bytes) read.0 ∙ ap (λ l. name ++ end ∷ l) read.1)

module _ (end : ℕ) (not_in_name : is_name_byte end ≡ false) where
  other_byte : (b : ℕ) → is_name_byte b ≡ true → eqb b end ≡ false
  other_byte b e = elim (eqb b end) as (λ t. eqb b end ≡ t → t ≡ false) [
    | true ↦ λ same. let ends = eqb-true b end same in absurd (false≢true (sym not_in_name ∙ ap is_name_byte (sym ends) ∙ e))
    | false ↦ λ _. refl
  ] refl

  first_end : (name rest : List ℕ) → list_all is_name_byte name ≡ true → prefix_len (λ b. not (b == end)) (name ++ end ∷ rest) ≡ length name
  first_end [] rest e = rw (eqb-same end) refl
  first_end (b ∷ bs) rest e =
      let h = and_parts (is_name_byte b) (list_all is_name_byte bs) e in
      rw (other_byte b h.0) (omega (arith, first_end bs rest h.1))

  name_bytes : (name : List ℕ) → is_name name ≡ true → list_all is_name_byte name ≡ true
  name_bytes [] e = absurd (cc)
  name_bytes (b ∷ bs) e =
      let h = and_parts (is_name_start b) _ e in
      let k = and_parts _ (list_all is_name_byte bs) h.1 in
      let first : is_name_byte b ≡ true = grind (arith, nat_tests) in
      rw (first, k.1) refl

  pub name_at-again : (name rest : List ℕ) → IsTrue (is_name name) → name_text_at end (name ++ end ∷ rest) ≡ Some (name, rest)
  unfolding name_text_at
  name_at-again name rest named =
      let len = first_end name rest (name_bytes name named) in
      let less : ltb (length name) (length (name ++ end ∷ rest)) ≡ true = grind (arith, nat_tests, length-append name (end ∷ rest)) in
      let before : take (length name) (name ++ end ∷ rest) ≡ name = take-append_seam name (end ∷ rest) in
      let following : drop (length name + 1) (name ++ end ∷ rest) ≡ rest = drop-append-add name (end ∷ rest) 1 in
      rw (len, less) (rw (before, named, following) refl)
