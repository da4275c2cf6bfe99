use Rattle.bgrammar.proofs.LawProofs.{has_twin}
use Rattle.bgrammar.proofs.lines_are_free.Goals as goal

pub returns : goal.returns
returns c = has_twin
