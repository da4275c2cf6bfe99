use Rattle.std.proofs.Common.{◌≡◌, ◌∙◌, ◌+◌, ◌-◌, ◌≤◌, List, ap, arith, length, reverse, sym}
use Rattle.std.specs.Prelude.{nat_lt}
use Rattle.std.proofs.lemmas.Bool.{le-ltb}
use Rattle.bmach.specs.Stepping.{Paused, operand_sum, operands_held}
use Rattle.bmach.specs.Steps.{callers_of, calls_below}
use Rattle.bmach.specs.declared.machine.Caller.{Caller}
use Rattle.bmach.proofs.Below.{sum_within}
use Rattle.bmach.proofs.stepper.Stepper.has_operands_above.Goals as goal

pub returns-then-len-most : goal.returns-then-len-most
returns-then-len-most g c =
    let calls = c.self.inside.calls in
    let operands = calls.top.operands in
    let len : c.len.result ≡ length operands.own + length operands.below = c.len.ensures in
    let few = c.if-len-most.true in
    let some = sum_within (reverse calls.below.items) operands.below in
    let within : length operands.own + operand_sum (calls_below calls) ≤ c.args.most = omega (arith, len, few, some) in
    sym (le-ltb c.args.most (length operands.own + operand_sum (calls_below calls)) within)
    ∙ ap (λ (p : Paused). nat_lt c.args.most (operands_held p)) c.self.view_is

pub returns : goal.returns
returns g c =
    let calls = c.self.inside.calls in
    let operands = calls.top.operands in
    let base = c.base.ensures in
    let held : operand_sum (calls_below calls) ≡ c.base.result - c.first_held.result =
    ap (λ (items : List Caller). operand_sum (callers_of (reverse items) operands.below)) (sym c.deref.ensures.value)
    ∙ c.first_held.ensures.held operands.below (sym base) in
    let len : c.len-2.result ≡ length operands.own + length operands.below = c.len-2.ensures in
    let within = c.first_held.ensures.within in
    let all : c.len-2.result - c.first_held.result ≡ length operands.own + operand_sum (calls_below calls) =
    omega (arith, held, base, len, within) in
    ap (nat_lt c.args.most) (all ∙ ap (λ (p : Paused). operands_held p) c.self.view_is)
