use Rattle.std.proofs.Common.{inr}
use Rattle.bword.specs.declared.ends.EndFault.TheVariants as end_fault
use Rattle.bmach.proofs.Turning.{writes_all, writes_less}
use Rattle.bmach.proofs.exchange.write_bytes.Goals as goal

pub returns-in-Err-Device-clause-gives : goal.returns-in-Err-Device-clause-gives
returns-in-Err-Device-clause-gives g c call word below store i =
    inr (writes_less call below store i word c.args.bytes.now c.requires.some end_fault.Device (rw c.in-Err-Device.field-0-is at c.in-Err-Device.ensures.gives))

pub returns-in-Err-Memory-clause-gives : goal.returns-in-Err-Memory-clause-gives
returns-in-Err-Memory-clause-gives g c call word below store i =
    inr (writes_less call below store i word c.args.bytes.now c.requires.some end_fault.Memory (rw c.in-Err-Memory.field-0-is at c.in-Err-Memory.ensures.gives))

pub returns-in-Ok-clause-gives : goal.returns-in-Ok-clause-gives
returns-in-Ok-clause-gives g c call word below store i =
    writes_all call below store i word c.args.bytes.now c.in-Ok.ensures.gives
