use Rattle.std.proofs.Common.{◌≡◌, ◌++◌, option_map, take}
use Rattle.blist.specs.ListingTexts.{target_rows}
use Rattle.blist.proofs.listing.push_targets.Given as goal

abbrev pub invariant-loop-index : goal.invariant-loop-index
invariant-loop-index l = l.text ≡ l.fn.text ++ target_rows (option_map (λ f. f.now) l.frame) (take l.index l.targets)
