use Rattle.std.proofs.Common.{◌≡◌, [], take, option_map}
use Rattle.blist.specs.Listings.{wanted}
use Rattle.blist.proofs.listing.is_none_wanted.Given as goal

abbrev pub invariant-loop-definition : goal.invariant-loop-definition
invariant-loop-definition l = wanted (option_map (λ n. n.now) l.name) (take l.definition-index l.definitions) ≡ []
