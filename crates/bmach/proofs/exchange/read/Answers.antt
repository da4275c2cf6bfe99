use Rattle.std.proofs.Common.{inl}
use Rattle.blang.specs.Machine.{with_operand}
use Rattle.bmach.specs.Steps.{machine_call}
use Rattle.bmach.specs.Turns.{reading, running}
use Rattle.bmach.proofs.Turning.{broken_exchange, goes_fails}
use Rattle.bmach.proofs.exchange.read.Goals as goal

pub returns-in-Err-clause-gives : goal.returns-in-Err-clause-gives
returns-in-Err-clause-gives g c below store o =
    let call = machine_call c.args.call.now in
    broken_exchange (reading call below store) (reading call below store) (running call below store) _ _ o o c.in-Err.outcome (c.in-Err.ensures.gives call below store o)

pub returns-in-Err-put-clause-gives : goal.returns-in-Err-put-clause-gives
returns-in-Err-put-clause-gives g c below store o =
    let call = machine_call c.args.call.now in
    inl (goes_fails (with_operand call c.in-Ok.word) below store (reading call below store) (c.in-Ok.ensures.gives call below store o))

pub returns-in-Ok-put-clause-gives : goal.returns-in-Ok-put-clause-gives
returns-in-Ok-put-clause-gives g c below store o =
    rw c.in-Ok-put.ensures.ok (c.in-Ok.ensures.gives (machine_call c.args.call.now) below store o)
