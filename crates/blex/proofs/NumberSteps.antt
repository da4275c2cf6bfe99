-- What the loop over a number keeps, and what it gives.
use Rattle.std.proofs.Common.{◌≡◌, ℕ, ◌+◌, ◌-◌, ◌*◌, ◌<◌, ◌≤◌, min, Bool, true, false, ◌&&◌, ◌==◌, List, [], ◌∷◌, ◌++◌, Option, Some, None, refl, sym, ap, ◌∙◌, arith, if◌then◌else◌, ◌⊎◌, inl, inr}
use Rattle.std.proofs.lemmas.Bool.Decides.{nat_tests}
use Rattle.std.specs.Prelude.{nat_lt, nat_le}
use Rattle.std.specs.List.{list_all}
use Rattle.std.proofs.lemmas.Bool.{cases_lt}
use Rattle.std.proofs.lemmas.List.Folds.{list_all-append}
use Rattle.std.proofs.lemmas.List.Sums.{fold-append}
use Rattle.std.proofs.Math.Bool.{and-true}
use Rattle.std.proofs.Math.Nat.{zero-mul, mul-le-mul_left, mul-le-mul_right}
use Rattle.blang.specs.declared.token.Token.{Token}
use Rattle.blang.specs.Cut.{Word, is_digit, is_digit_of, digits_value, base_of, number_in, number_when}
use Rattle.blex.specs.Sources.{Source, GoesAfter}
use Rattle.blex.specs.Lexing.{PassesPiece, TakesIf}
use Rattle.blex.proofs.Passing.{Passes-refl, Passes-append}
use Rattle.blex.proofs.ByteSteps.{Passes-then, more_bytes}
use Rattle.blex.proofs.EachPiece.{number-is, number-stops}

-- a number so far
pub record InNumber (first : ℕ) (old : Source) (base value : ℕ) (is_of_base : Bool) (new : Source) : Type 0 where
  pub run : List ℕ
  pub passes : GoesAfter old run new
  pub digits : list_all is_digit run ≡ true
  pub value_is : value ≡ min (digits_value base (first ∷ run)) 65536
  pub of_base : is_of_base ≡ list_all (is_digit_of base) (first ∷ run)

capped_cases : (base v d : ℕ) → 0 < base → (v < 65536) ⊎ (65536 ≤ v) → min (min v 65536 * base + d) 65536 ≡ min (v * base + d) 65536
capped_cases base v d h (inl l) = let e : min v 65536 ≡ v = omega arith in rw e refl
capped_cases base v d h (inr l) =
    let e : min v 65536 ≡ 65536 = omega arith in
    let low : 65536 * 1 ≤ 65536 * base = mul-le-mul_left 65536 h in
    let high : 65536 * base ≤ v * base = mul-le-mul_right base l in
    rw e (omega arith)

capped : (base v d : ℕ) → 0 < base → min (min v 65536 * base + d) 65536 ≡ min (v * base + d) 65536
capped base v d h = capped_cases base v d h (cases_lt v 65536)

pub base_pos : (b : ℕ) → 0 < base_of b
base_pos b = elim (b == 48) as (λ t. 0 < (if t then 8 else 10)) [ true ↦ omega arith | false ↦ omega arith ]

value_more : (base : ℕ) (run : List ℕ) (x : ℕ) → digits_value base (run ++ x ∷ []) ≡ digits_value base run * base + (x - 48)
value_more base run x = fold-append (λ value digit. value * base + (digit - 48)) 0 run (x ∷ [])

all_more : (p : ℕ → Bool) (run : List ℕ) (x : ℕ) → list_all p (run ++ x ∷ []) ≡ (list_all p run && p x)
all_more p run x = rw (list_all-append p run (x ∷ []), and-true (p x)) refl

when_cases : (v : ℕ) → (v < 65536) ⊎ (65536 ≤ v) → number_when true (min v 65536) ≡ number_when true v
when_cases v (inl l) = let e : min v 65536 ≡ v = omega arith in rw e refl
when_cases v (inr l) =
    let e : min v 65536 ≡ 65536 = omega arith in
    let f : nat_le v 65535 ≡ false = grind (arith, nat_tests) in
    rw (e, f) refl

when_capped : (ok : Bool) (v : ℕ) → number_when ok (min v 65536) ≡ number_when ok v
when_capped false v = refl
when_capped true v = when_cases v (cases_lt v 65536)

number_is : (base : ℕ) (digits : List ℕ) (value : ℕ) (ok : Bool) (t : Token) → value ≡ min (digits_value base digits) 65536 → ok ≡ list_all (is_digit_of base) digits
    → t ≡ number_when ok value → number_in base digits ≡ t
unfolding number_in
number_is base digits value ok t v o w =
    sym (when_capped (list_all (is_digit_of base) digits) (digits_value base digits)) ∙ ap (λ u. number_when u (min (digits_value base digits) 65536)) (sym o) ∙ ap (number_when ok) (sym v) ∙ sym w

pub number_more : {first : ℕ} {a b c : Source} {value : ℕ} {ok : Bool} (o : Option ℕ) (byte value' : ℕ) (ok' : Bool) → o ≡ Some byte
    → InNumber first a (base_of first) value ok b → TakesIf is_digit b o c
    → value' ≡ min (value * base_of first + (byte - 48)) 65536 → ok' ≡ (ok && nat_lt (byte - 48) (base_of first))
    → InNumber first a (base_of first) value' ok' c
number_more {first} {a} {b} {c} {value} {ok} None byte value' ok' e h k v w = cc
number_more {first} {a} {b} {c} {value} {ok} (Some x) byte value' ok' e h k v w =
    let same : byte ≡ x = cc in
    let base = base_of first in
    record {
      run = h.run ++ x ∷ [];
      passes = Passes-append h.passes k.0;
      digits = more_bytes is_digit h.run x h.digits k.1;
      value_is = v ∙ ap (λ u. min (u * base + (byte - 48)) 65536) h.value_is ∙ capped base (digits_value base (first ∷ h.run)) (byte - 48) (base_pos first)
          ∙ ap (λ y. min (digits_value base (first ∷ h.run) * base + (y - 48)) 65536) same ∙ ap (λ u. min u 65536) (sym (value_more base (first ∷ h.run) x));
      of_base = w ∙ ap (λ y. ok && nat_lt (y - 48) base) same ∙ ap (λ u. u && nat_lt (x - 48) base) h.of_base ∙ sym (all_more (is_digit_of base) (first ∷ h.run) x);
    }

pub number_ends : {first : ℕ} {a b c : Source} {value : ℕ} {ok : Bool} (o : Option ℕ) (t : Token) → o ≡ None → is_digit first ≡ true
    → InNumber first a (base_of first) value ok b → TakesIf is_digit b o c → t ≡ number_when ok value → PassesPiece first a (Some t) c
number_ends {first} {a} {b} {c} {value} {ok} (Some x) t e s h k w = cc
number_ends {first} {a} {b} {c} {value} {ok} None t e s h k w = record {
  rest = h.run;
  passes = Passes-then h.passes k.0;
  is = number-is _ first h.run s h.digits ∙ ap (λ u. Some (Word u)) (number_is (base_of first) (first ∷ h.run) value ok t h.value_is h.of_base w);
  stops = λ xs m. number-stops _ first h.run xs s (k.1 xs m);
}

first_value : (first value : ℕ) → is_digit first ≡ true → value ≡ first - 48 → value ≡ min (0 * base_of first + (first - 48)) 65536
first_value first value d e =
    let small : first - 48 ≤ 9 = grind (arith, nat_tests) in
    let zero_times : 0 * base_of first ≡ 0 = zero-mul (base_of first) in
    rw zero_times (omega arith)

first_cases : (b : Bool) (first : ℕ) → (first == 48) ≡ b → is_digit first ≡ true → (nat_lt (first - 48) (if b then 8 else 10) && true) ≡ true
first_cases true first e d = let z : first ≡ 48 = grind (arith, nat_tests) in rw z refl
first_cases false first e d = let l : nat_lt (first - 48) 10 ≡ true = grind (arith, nat_tests) in rw l refl

first_of_base : (first : ℕ) → is_digit first ≡ true → list_all (is_digit_of (base_of first)) (first ∷ []) ≡ true
first_of_base first d = first_cases (first == 48) first refl d

pub number_start : (first value : ℕ) (s : Source) → is_digit first ≡ true → value ≡ first - 48 → InNumber first s (base_of first) value true s
number_start first value s d e = record {
  run = [];
  passes = Passes-refl s;
  digits = refl;
  value_is = first_value first value d e;
  of_base = sym (first_of_base first d);
}
