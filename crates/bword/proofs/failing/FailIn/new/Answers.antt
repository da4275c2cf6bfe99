use Rattle.std.proofs.Common.{rules}
use Rattle.bword.proofs.failing.FailIn.new.Goals as goal

pub returns : goal.returns
returns c = search rules
