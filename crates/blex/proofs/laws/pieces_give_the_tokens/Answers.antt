use Rattle.blex.proofs.PlaceSteps.{places_of_tokens}
use Rattle.blex.proofs.laws.pieces_give_the_tokens.Goals as goal

pub returns : goal.returns
returns c = places_of_tokens
