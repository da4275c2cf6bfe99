use Rattle.std.proofs.Common.{sym}
use Rattle.bword.proofs.WordLemmas.{shl_out}
use Rattle.bword.proofs.operators.shifted_left.Goals as goal

pub returns-else-count-lt16 : goal.returns-else-count-lt16
returns-else-count-lt16 c = sym (shl_out c.args.a c.args.count c.if-count-lt16.false)
