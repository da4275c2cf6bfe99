use Rattle.bmean.proofs.Sentences.{goes_on}
use Rattle.bmean.proofs.statements_are_done_in_place.Goals as goal

pub returns : goal.returns
returns c = goes_on
