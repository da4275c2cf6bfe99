use Rattle.std.proofs.Common.{inl, refl}
use Rattle.blang.specs.Machine.{with_operand}
use Rattle.bmach.specs.Steps.{machine_call}
use Rattle.bmach.specs.Turns.{running}
use Rattle.bmach.proofs.Turning.{goes_fails, goes_on}
use Rattle.bmach.proofs.exchange.give.Goals as goal

pub returns-in-Err-clause-gives : goal.returns-in-Err-clause-gives
returns-in-Err-clause-gives c below store i o =
    let call = with_operand (machine_call c.args.call.now) c.args.word in
    let now = running call below store in
    inl (goes_fails call below store now (goes_on now now i o (λ left before. refl)))
