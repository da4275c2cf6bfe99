use Rattle.blist.proofs.ListExcluded.{no_maps}
use Rattle.blist.proofs.layout.wrong_maps_are_excluded.Goals as goal

pub returns : goal.returns
returns c = no_maps
