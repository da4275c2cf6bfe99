use Rattle.blex.proofs.CallLaws.{calls_give_first}
use Rattle.blex.proofs.laws.calls_give_the_first_tokens.Goals as goal

pub returns : goal.returns
returns c = calls_give_first
