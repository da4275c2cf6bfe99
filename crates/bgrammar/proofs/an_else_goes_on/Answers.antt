use Rattle.bgrammar.proofs.LawProofs.{goes_on_with_else}
use Rattle.bgrammar.proofs.an_else_goes_on.Goals as goal

pub returns : goal.returns
returns c = goes_on_with_else
