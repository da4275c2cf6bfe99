use Rattle.btrace.proofs.PlacesTold.{places_told}
use Rattle.btrace.proofs.locating.the_place_is_told.Goals as goal

pub returns : goal.returns
returns c = places_told
