use Rattle.std.proofs.Common.{rules}
use Rattle.bparse.proofs.compiler.compile_next.Goals as goal

pub returns-clause-gives : goal.returns-clause-gives
returns-clause-gives g c = search rules
