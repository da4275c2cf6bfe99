use Rattle.bmach.specs.Steps.{world_with}
use Rattle.bmach.proofs.stepper.may_read.Goals as goal

pub returns-in-None : goal.returns-in-None
returns-in-None c below store is left before =
    let at = rw (c.in-Some-Call.field-0-is, c.deref.ensures.value) at c.in-Some-Call.ensures.some in
    c.in-None.ensures.unasked below (world_with store left before) at
