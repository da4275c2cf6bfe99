use Rattle.bshow.proofs.CarefulExcluded.{no_careful_pages}
use Rattle.bshow.proofs.careful.wrong_careful_pages_are_excluded.Goals as goal

pub returns : goal.returns
returns c = no_careful_pages
