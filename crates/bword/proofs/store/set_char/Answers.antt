use Rattle.std.proofs.Common.{rules}
use Rattle.bword.proofs.store.set_char.Goals as goal

pub returns-clause-unchanged : goal.returns-clause-unchanged
returns-clause-unchanged g c = search rules
