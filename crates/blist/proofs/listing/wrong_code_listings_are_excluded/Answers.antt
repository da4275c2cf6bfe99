use Rattle.blist.proofs.CodeListExcluded.{no_code_listings}
use Rattle.blist.proofs.listing.wrong_code_listings_are_excluded.Goals as goal

pub returns : goal.returns
returns c = no_code_listings
