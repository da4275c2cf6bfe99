use Rattle.std.proofs.Common.{rules}
use Rattle.bemit.proofs.draft.Draft.fault.Goals as goal

pub returns-in-Err : goal.returns-in-Err
returns-in-Err c = search rules
