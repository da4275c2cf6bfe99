use Rattle.blist.proofs.ListExcluded.{no_listings}
use Rattle.blist.proofs.listing.wrong_listings_are_excluded.Goals as goal

pub returns : goal.returns
returns c = no_listings
