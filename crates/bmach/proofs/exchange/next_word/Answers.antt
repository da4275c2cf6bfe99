use Rattle.std.proofs.Common.{inl}
use Rattle.bmach.proofs.Turning.{reads_end, reads_nothing}
use Rattle.bmach.proofs.exchange.next_word.Goals as goal

pub returns-in-Err-clause-gives : goal.returns-in-Err-clause-gives
returns-in-Err-clause-gives g c call below store o = inl (reads_nothing call below store o c.in-Err.ensures.gives)

pub returns-in-Ok-None-clause-gives : goal.returns-in-Ok-None-clause-gives
returns-in-Ok-None-clause-gives g c call below store o =
    reads_end call below store o (rw c.in-Ok-None.field-0-is at c.in-Ok-None.ensures.gives)
