use Rattle.bcodegen.proofs.Definitions.{one_pass}
use Rattle.bcodegen.proofs.one_pass_makes_the_code.Goals as goal

pub returns : goal.returns
returns c = one_pass
