use Rattle.std.proofs.Common.{◌≡◌, ◌++◌, take}
use Rattle.blist.specs.ListingTexts.{string_rows}
use Rattle.blist.proofs.listing.push_strings.Given as goal

abbrev pub invariant-loop-index : goal.invariant-loop-index
invariant-loop-index l = l.text ≡ l.fn.text ++ string_rows l.address (take l.index l.words)
