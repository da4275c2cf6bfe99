use Rattle.std.proofs.Common.{inl}
use Rattle.blang.specs.Machine.{with_operand}
use Rattle.bmach.specs.Steps.{machine_call}
use Rattle.bmach.specs.Turns.{writing}
use Rattle.bmach.proofs.Turning.{goes_fails, writes_all}
use Rattle.bmach.proofs.exchange.write.Goals as goal

pub returns-in-Err-clause-gives : goal.returns-in-Err-clause-gives
returns-in-Err-clause-gives g c below store i =
    let call = machine_call c.args.call.now in
    let text = c.args.text.now in
    let written = c.in-Ok.ensures.gives in
    inl (goes_fails (with_operand call c.args.word) below store (writing call c.args.word text below store)
    (writes_all call below store i c.args.word text written))
