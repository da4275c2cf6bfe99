use Rattle.std.proofs.Common.{◌≡◌, ◌∙◌, ◌+◌, ◌-◌, ◌<◌, ◌≤◌, ℕ, List, ◌∷◌, ap, arith, drop, get_or, length, min, reverse, subst, sym, take}
use Rattle.std.proofs.Math.ListN.{drop_of_length-le}
use Rattle.std.proofs.lemmas.List.{drop_more, get_or-reverse, length-reverse, take_all}
use Rattle.bmach.specs.declared.machine.Caller.{Caller}
use Rattle.bmach.specs.Stepping.{operand_sum}
use Rattle.bmach.specs.Steps.{callers_of}
use Rattle.bmach.proofs.Below.{nearest_held}
use Rattle.bmach.proofs.stepper.first_held.Goals as goal

pub loop-number-init : goal.loop-number-init
loop-number-init c =
    let words = c.args.words in
    let callers = reverse c.args.below.now in
    record {
      low = omega arith;
      held = λ held is.
          let all : operand_sum (callers_of callers held) ≡ operand_sum (callers_of callers (take words held)) =
          ap (λ h. operand_sum (callers_of callers h)) (sym (take_all words held (omega (arith, is)))) in
          omega (arith, all);
    }

pub loop-number-preserved : goal.loop-number-preserved
loop-number-preserved c =
    let below = c.args.below.now in
    let callers = reverse below in
    let number = c.loop-number.number in
    let caller = c.index-below-below.result in
    let first = c.loop-number.first in
    let low = c.loop-number.invariant.low in
    let there : number < length callers = let size = length-reverse below in let within = c.loop-number-test.true in omega (arith, size, within) in
    let is : caller ≡ get_or callers number caller =
    c.index-below-below.is ∙ sym (get_or-reverse below number caller c.loop-number-test.true) in
    let next : drop number callers ≡ caller ∷ drop (number + 1) callers =
    drop_more callers number caller there ∙ ap (λ (x : Caller). x ∷ drop (number + 1) callers) (sym is) in
    let least = c.min-first.ensures in
    subst (λ n. record {
      low : n ≤ c.args.words;
      held : (held : List ℕ) → length held ≡ c.args.words → operand_sum (callers_of callers held)
          ≡ (c.args.words - n) + operand_sum (callers_of (drop (number + 1) callers) (take n held));
    }) (sym least)
    (record {
      low = omega (arith, low);
      held = λ held size.
          let so = c.loop-number.invariant.held held size in
          let on : operand_sum (callers_of (drop number callers) (take first held))
          ≡ (first - min first caller.base) + operand_sum (callers_of (drop (number + 1) callers) (take (min first caller.base) held)) =
          ap (λ (cs : List Caller). operand_sum (callers_of cs (take first held))) next
          ∙ nearest_held caller (drop (number + 1) callers) first held (omega (arith, low, size)) in
          omega (arith, so, on, low);
    })

pub returns-clause-held : goal.returns-clause-held
returns-clause-held c held size =
    let callers = reverse c.args.below.now in
    let so = c.loop-number.invariant.held held size in
    let past : length callers ≤ c.loop-number.number = let size = length-reverse c.args.below.now in let over = c.loop-number-test.false in omega (arith, size, over) in
    let none : operand_sum (callers_of (drop c.loop-number.number callers) (take c.loop-number.first held)) ≡ 0 =
    ap (λ (cs : List Caller). operand_sum (callers_of cs (take c.loop-number.first held))) (drop_of_length-le callers past) in
    omega (arith, so, none)
