use Rattle.std.proofs.Common.{rules}
use Rattle.bread.proofs.statement.close_switch.Goals as goal

pub returns : goal.returns
returns c = search rules
