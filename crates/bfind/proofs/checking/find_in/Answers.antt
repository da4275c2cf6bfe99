use Rattle.bfind.proofs.Checked.{fault_told}
use Rattle.bfind.proofs.checking.find_in.Goals as goal

pub returns-in-Ok-None-clause-finds : goal.returns-in-Ok-None-clause-finds
returns-in-Ok-None-clause-finds g c =
    let compiles = rw c.in-Ok-None.field-0-is at c.in-Ok-None.ensures in
    c.find_told.ensures.finds compiles.0 _ compiles.1

pub returns-in-Ok-Some-clause-finds : goal.returns-in-Ok-Some-clause-finds
returns-in-Ok-Some-clause-finds g c =
    fault_told _ _ _ _ _ _ _ _ _ c.in-Ok-Some.fault (rw c.in-Ok-Some.field-0-is at c.in-Ok-Some.ensures) c.refuse.ensures.told
