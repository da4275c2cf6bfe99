use Rattle.std.proofs.Common.{◌≡◌, None, Some}
use Rattle.bmach.specs.Steps.{machine_call}
use Rattle.bmach.proofs.Asking.{asks_not, callee_there, if_none, some_alike}
use Rattle.bmach.proofs.exchange.asked.Goals as goal

pub returns-in_err-value-clause-unasked : goal.returns-in_err-value-clause-unasked
returns-in_err-value-clause-unasked c =
    let call = c.args.call.now in
    if_none c.from_residual.result _
    (λ below w at. asks_not (machine_call call) below w c.args.count None at (callee_there c.args.count call.operands.own None c.in_err-value.ensures.takes) (λ e. cc))

pub returns-in_default-clause-unasked : goal.returns-in_default-clause-unasked
returns-in_default-clause-unasked c below w at =
    let call = c.args.call.now in
    let other = c.if-value-eq3.false in
    asks_not (machine_call call) below w c.args.count (Some c.in_ok-value.value) at
    (callee_there c.args.count call.operands.own (Some (c.in_ok-value.value, c.in_ok-value.arguments)) c.in_ok-value.ensures.takes)
    (λ e. let is : c.in_ok-value.value ≡ 3 = some_alike c.in_ok-value.value 3 e in absurd (other is))
