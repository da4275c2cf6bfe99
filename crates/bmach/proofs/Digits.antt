-- Digits of numbers, from the last to the first.
use Rattle.std.proofs.Common.{◌≡◌, ℕ, suc, ◌+◌, ◌*◌, ◌-◌, ◌/◌, ◌%◌, ◌^◌, ◌<◌, ◌≤◌, Bool, true, false, cond, eqb, List, [], ◌∷◌, length, take, drop, length-drop, ap, ◌∙◌, arith}
use Rattle.std.proofs.lemmas.Nat.{div_below, le-div}
use Rattle.std.proofs.lemmas.List.{take_all}
use Rattle.std.proofs.Math.Nat.{div-eq_of_lt, mod-eq_of_lt, mul-le-mul_left}
use Rattle.std.specs.Fmt.{digits, digits_onto, digit_glyph}

pub digits_begin : (base n : ℕ) → (fuel : ℕ) → fuel ≡ 64 → digits_onto fuel base false n [] ≡ digits base false n
unfolding digits
digits_begin base n fuel e = ap (λ k. digits_onto k base false n []) e

glyph : (d : ℕ) → d < 10 → digit_glyph false d ≡ 48 + d
glyph d h = grind arith

is_zero : (q : ℕ) → q ≡ 0 → eqb q 0 ≡ true
is_zero q e = ap (λ k. eqb k 0) e

not_zero : (q : ℕ) → 1 ≤ q → eqb q 0 ≡ false
not_zero q h = grind arith

module _ (base n : ℕ) (acc : List ℕ) (low : 2 ≤ base) (high : base ≤ 10) where
  by_test : (k : ℕ) (t : Bool) → eqb (n / base) 0 ≡ t → digits_onto (suc k) base false n acc ≡ cond t (digit_glyph false (n % base) ∷ acc) (digits_onto k base false (n / base) (digit_glyph false (n % base) ∷ acc))
  by_test k t e = ap (λ b. cond b (digit_glyph false (n % base) ∷ acc) (digits_onto k base false (n / base) (digit_glyph false (n % base) ∷ acc))) e

  pub digit_more : (fuel k : ℕ) → fuel ≡ suc k → base ≤ n → digits_onto fuel base false n acc ≡ digits_onto k base false (n / base) ((48 + n % base) ∷ acc)
  digit_more fuel k e h =
      let some = not_zero (n / base) (le-div 1 n base (omega arith) (omega arith)) in
      ap (λ f. digits_onto f base false n acc) e ∙ by_test k false some ∙ ap (λ g. digits_onto k base false (n / base) (g ∷ acc)) (glyph (n % base) (omega arith))

  pub digit_last : (fuel k : ℕ) → fuel ≡ suc k → n < base → digits_onto fuel base false n acc ≡ (48 + n) ∷ acc
  digit_last fuel k e h =
      let quotient : n / base ≡ 0 = div-eq_of_lt h in
      let same : n % base ≡ n = mod-eq_of_lt h in
      ap (λ f. digits_onto f base false n acc) e ∙ by_test k true (is_zero (n / base) quotient) ∙ ap (λ d. digit_glyph false d ∷ acc) same ∙ ap (λ g. g ∷ acc) (glyph n (omega arith))

-- a quotient needs half the room
pub halved : (n base k : ℕ) → 2 ≤ base → n < 2 ^ (suc k) → n / base < 2 ^ k
halved n base k low h =
    let room : 2 ^ k * 2 ≤ 2 ^ k * base = mul-le-mul_left (2 ^ k) low in
    div_below n base (2 ^ k) (omega arith) (omega (arith, room, h))

-- a text that ends a buffer
pub text_there : (n start : ℕ) (buffer text : List ℕ) → length buffer ≡ n → drop start buffer ≡ text → take (n - start) (drop start buffer) ≡ text
text_there n start buffer text long is = take_all (n - start) (drop start buffer) (omega (arith, length-drop start buffer, long)) ∙ is
