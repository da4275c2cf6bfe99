use Rattle.bshow.proofs.ShowExcluded.{no_pages}
use Rattle.bshow.proofs.showing.wrong_pages_are_excluded.Goals as goal

pub returns : goal.returns
returns c = no_pages
