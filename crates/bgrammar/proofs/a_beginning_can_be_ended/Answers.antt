use Rattle.bgrammar.proofs.Ending.{can_be_ended}
use Rattle.bgrammar.proofs.a_beginning_can_be_ended.Goals as goal

pub returns : goal.returns
returns c = can_be_ended
