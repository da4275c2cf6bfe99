use Rattle.std.proofs.Common.{arith, sym}
use Rattle.bword.proofs.WordLemmas.{shr_out}
use Rattle.bword.proofs.operators.shifted_right.Goals as goal

pub returns-else-count-lt16 : goal.returns-else-count-lt16
returns-else-count-lt16 c = sym (shr_out c.args.a c.args.count (omega arith) c.if-count-lt16.false)
