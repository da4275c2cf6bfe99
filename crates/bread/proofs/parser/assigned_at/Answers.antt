use Rattle.std.proofs.Common.{rules}
use Rattle.bread.proofs.parser.assigned_at.Goals as goal

pub returns-in-Joined-default : goal.returns-in-Joined-default
returns-in-Joined-default c = search rules
