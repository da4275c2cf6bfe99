use Rattle.std.proofs.Common.{rules}
use Rattle.bword.proofs.ends.RefMutByteIn.next.Goals as goal

pub returns-clause-gives : goal.returns-clause-gives
returns-clause-gives g c = search rules

pub returns-clause-ready : goal.returns-clause-ready
returns-clause-ready g c = search rules
