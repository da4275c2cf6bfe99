use Rattle.std.proofs.Common.{rules}
use Rattle.brun.proofs.text.finish.Goals as goal

pub returns-in-Limit-clause-gives : goal.returns-in-Limit-clause-gives
returns-in-Limit-clause-gives g c = search rules
