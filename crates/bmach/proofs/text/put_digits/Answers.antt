use Rattle.std.proofs.Common.{◌≡◌, ◌+◌, ◌-◌, ◌^◌, ◌/◌, ◌%◌, ◌<◌, false, ℕ, zero, suc, ◌≤◌, refl, drop, arith, sym, ap, ◌∙◌, subst}
use Rattle.std.proofs.lemmas.List.{drop-set, drop_all, length-set}
use Rattle.std.specs.Prelude.{slice_set}
use Rattle.std.specs.Fmt.{digits_onto}
use Rattle.bmach.proofs.Digits.{digits_begin, digit_more, digit_last, halved}
use Rattle.bmach.proofs.text.put_digits.Goals as goal

pub digits-init : goal.digits-init
digits-init c =
    record {
      room = c.told-buffer;
      range = (omega arith, omega arith);
      enough = omega arith;
      digits = λ fuel e. ap (digits_onto fuel c.args.base.value false c.args.number) (drop_all 17 c.args.buffer.now (omega arith)) ∙ digits_begin c.args.base.value c.args.number fuel e;
    }

-- a number with room for one digit alone is 1 at most
range_below : (start quotient left : ℕ) → start ≤ 16 → 1 ≤ start → 2 ≤ left → left < 2 ^ start → (1 ≤ start - 1) × (start - 1 ≤ 16)
range_below zero quotient left most some at_least enough = absurd (omega arith)
range_below (suc zero) quotient left most some at_least enough = absurd (omega arith)
range_below (suc (suc k)) quotient left most some at_least enough = (omega arith, omega arith)

pub digits-preserved : goal.digits-preserved
digits-preserved c =
    let base = c.args.base.value in
    let buffer = c.digits.buffer in
    let start = c.digits.start in
    let left = c.digits.left in
    let low : 2 ≤ base = c.args.base.in_range.0 in
    let high : base ≤ 10 = c.args.base.in_range.1 in
    let more : base ≤ left = c.digits-test.true in
    let enough : left < 2 ^ start = c.digits.invariant.enough in
    let some : 1 ≤ start = c.digits.invariant.range.0 in
    let is : start ≡ suc (start - 1) = omega (arith, some) in
    let again : start - 1 + 1 ≡ start = omega (arith, some) in
    let at_least : 2 ≤ left = omega (arith, low, more) in
    let less : left / base < 2 ^ (start - 1) = halved left base (start - 1) low (subst (λ k. left < 2 ^ k) is enough) in
    record {
      room = length-set buffer start (48 + left % base) ∙ c.digits.invariant.room;
      range = range_below start (left / base) left c.digits.invariant.range.1 some at_least enough;
      enough = less;
      digits = λ fuel e.
          ap (digits_onto fuel base false (left / base)) (ap (λ k. drop k (slice_set buffer start (48 + left % base))) again ∙ drop-set buffer start (48 + left % base) (omega (arith, c.digits.invariant.room, c.digits.invariant.range.1)))
          ∙ sym (digit_more base left (drop (start + 1) buffer) low high (suc fuel) fuel refl more)
          ∙ c.digits.invariant.digits (suc fuel) (omega (arith, e, some));
    }

pub returns-clause-digits : goal.returns-clause-digits
returns-clause-digits c =
    let base = c.args.base.value in
    let buffer = c.digits.buffer in
    let start = c.digits.start in
    let left = c.digits.left in
    drop-set buffer start (48 + left) (omega (arith, c.digits.invariant.room, c.digits.invariant.range.1))
    ∙ sym (digit_last base left (drop (start + 1) buffer) c.args.base.in_range.0 c.args.base.in_range.1 (48 + start) (47 + start) (omega arith) c.digits-test.false)
    ∙ c.digits.invariant.digits (48 + start) (omega arith)
