use Rattle.blex.proofs.BlockSteps.{before_first_star}
use Rattle.blex.proofs.source.before_star.Goals as goal

pub returns-clause-none : goal.returns-clause-none
returns-clause-none c = before_first_star c.args.bytes.now c.memchr.result c.unwrap_or.result c.memchr.ensures c.unwrap_or.ensures
