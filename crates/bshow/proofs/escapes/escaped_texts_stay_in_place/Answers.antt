use Rattle.bshow.proofs.Escaping.{stays}
use Rattle.bshow.proofs.escapes.escaped_texts_stay_in_place.Goals as goal

pub returns : goal.returns
returns c = stays
