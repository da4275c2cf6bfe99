-- Lines that are numbers in decimal digits.
use Rattle.std.proofs.Common.{◌≡◌, ◌∙◌, ℕ, ◌^◌, ◌<◌, ◌≤◌, Bool, true, false, cond, List, Some, None, Result, Ok, Err, ap, arith, decimal, min, refl, subst, sym}
use Rattle.std.specs.Prelude.{nat_lt}
use Rattle.std.specs.Str.{IsUtf8, bytes_eq}
use Rattle.std.specs.Str.Parse.{ParsesUnsigned, digits_value}
use Rattle.std.proofs.lemmas.Bool.{le-ltb, lt-ltb, ltb-false}
use Rattle.std.proofs.lemmas.Fmt.{IsAscii-decimal, decimal_is_IsNumeral, parse-decimal}
use Rattle.std.proofs.lemmas.Slice.Eq.{bytes_eq-Decides}
use Rattle.std.proofs.lemmas.Str.{IsUtf8-from_ascii}
use Rattle.bword.specs.ByteEnds.{most}
use Rattle.bauthor.specs.LineFiles.{number_read}

-- a line that is a number in decimal digits
module _ (n : ℕ) (line : List ℕ) (small : n < 2 ^ 64) (is : decimal n ≡ line) where
  pub in_utf8 : IsUtf8 line
  in_utf8 = subst IsUtf8 is (IsUtf8-from_ascii (decimal n) (IsAscii-decimal n small))

  pub parsed : {E : Type 0} (r : Result ℕ E) → ParsesUnsigned 64 10 line r → r ≡ Ok n
  parsed r p = parse-decimal 64 n line r small small (sym is) p

  pub not_parsed : {E : Type 0} (r : Result ℕ E) (e : E) → r ≡ Err e → ParsesUnsigned 64 10 line r → ⊥
  not_parsed r e none p = let no : Err e ≡ Ok n = sym none ∙ parsed r p in cc

  pub written : {E : Type 0} (r : Result ℕ E) (m : ℕ) → r ≡ Ok m → ParsesUnsigned 64 10 line r → decimal m ≡ line
  written r m some p = let same : Ok m ≡ Ok n = sym some ∙ parsed r p in let one : m ≡ n = cc in ap decimal one ∙ is

  value : digits_value 10 line ≡ n
  value = subst (λ t. digits_value 10 t ≡ n) is (decimal_is_IsNumeral n small).1

  -- it is read, if it isn't above the last one
  number_is : (last : ℕ) → number_read last line ≡ (cond (nat_lt (min last most) n) None (Some n))
  number_is last =
      ap (λ v. cond (nat_lt (min last most) v) None (cond (bytes_eq (decimal v) line) (Some v) None)) value
      ∙ ap (λ b. cond (nat_lt (min last most) n) None (cond b (Some n) None)) ((bytes_eq-Decides (decimal n) line).1 is)

  pub is_read : (last : ℕ) → n ≤ last → number_read last line ≡ Some n
  is_read last le =
      let low : n ≤ min last most = omega (arith, le, small) in
      number_is last ∙ ap (λ b. cond b None (Some n)) (le-ltb (min last most) n low)

  pub is_above : (last : ℕ) → last < n → number_read last line ≡ None
  is_above last above =
      let over : min last most < n = omega (arith, above) in
      number_is last ∙ ap (λ b. cond b None (Some n)) (lt-ltb (min last most) n over)

-- What is read is written so.
read_if : (bound v : ℕ) (line : List ℕ) (n : ℕ) (above same : Bool) → nat_lt bound v ≡ above
    → bytes_eq (decimal v) line ≡ same → cond above None (cond same (Some v) None) ≡ Some n
    → (n ≤ bound) × (line ≡ decimal n)
read_if bound v line n true same over eq h = cc
read_if bound v line n false false over eq h = cc
read_if bound v line n false true over eq h =
    let is : v ≡ n = cc in
    let low : v ≤ bound = ltb-false bound v over in
    let text : decimal v ≡ line = (bytes_eq-Decides (decimal v) line).0 eq in
    (subst (λ (m : ℕ). m ≤ bound) is low, sym text ∙ ap decimal is)

pub read_so : (last : ℕ) (line : List ℕ) (n : ℕ) → number_read last line ≡ Some n
    → ((n ≤ last) × (n ≤ most)) × (line ≡ decimal n)
read_so last line n h =
    let v = digits_value 10 line in
    let r = read_if (min last most) v line n (nat_lt (min last most) v) (bytes_eq (decimal v) line) refl refl h in
    let low : n ≤ min last most = r.0 in
    ((omega (arith, low), omega (arith, low)), r.1)

-- a line that is no number
none_if : (bound v : ℕ) (line : List ℕ) (above same : Bool) → bound < 2 ^ 64
    → ((n : ℕ) → n < 2 ^ 64 → decimal n ≡ line → ⊥) → nat_lt bound v ≡ above → bytes_eq (decimal v) line ≡ same
    → cond above None (cond same (Some v) None) ≡ None
none_if bound v line true same small none over eq = refl
none_if bound v line false false small none over eq = refl
none_if bound v line false true small none over eq =
    let low : v ≤ bound = ltb-false bound v over in
    absurd (none v (omega (arith, low, small)) ((bytes_eq-Decides (decimal v) line).0 eq))

pub none_read : (last : ℕ) (line : List ℕ) → ((n : ℕ) → n < 2 ^ 64 → decimal n ≡ line → ⊥)
    → number_read last line ≡ None
none_read last line none =
    let v = digits_value 10 line in
    let bound = min last most in
    let small : bound < 2 ^ 64 = omega arith in
    none_if bound v line (nat_lt bound v) (bytes_eq (decimal v) line) small none refl refl
