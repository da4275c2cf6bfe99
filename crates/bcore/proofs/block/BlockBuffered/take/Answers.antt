use Rattle.std.proofs.Common.{arith}
use Rattle.std.proofs.lemmas.Bool.Decides.{nat_tests}
use Rattle.bcore.proofs.block.BlockBuffered.take.Goals as goal

pub returns-clause-fits : goal.returns-clause-fits
returns-clause-fits g c some fits = absurd (grind (arith, nat_tests))
