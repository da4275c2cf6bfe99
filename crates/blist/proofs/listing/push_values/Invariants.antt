use Rattle.std.proofs.Common.{◌≡◌, ◌++◌, take}
use Rattle.blist.specs.ListingTexts.{value_rows}
use Rattle.blist.proofs.listing.push_values.Given as goal

abbrev pub invariant-loop-index : goal.invariant-loop-index
invariant-loop-index l = l.text ≡ l.fn.text ++ value_rows l.address l.lines (take l.index l.values)
