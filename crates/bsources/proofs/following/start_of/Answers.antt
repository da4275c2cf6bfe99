use Rattle.std.proofs.Common.{arith}
use Rattle.bsources.proofs.LineLemmas.{start_at}
use Rattle.bsources.proofs.following.start_of.Goals as goal

pub returns : goal.returns
returns c = start_at c.args.files.now c.args.place _ (omega arith) (omega arith)
