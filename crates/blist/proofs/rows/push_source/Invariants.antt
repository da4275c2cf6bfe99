use Rattle.std.proofs.Common.{◌≡◌, ◌++◌, map, take}
use Rattle.blist.specs.ListingTexts.{column_byte}
use Rattle.blist.proofs.rows.push_source.Given as goal

abbrev pub invariant-loop-byte : goal.invariant-loop-byte
invariant-loop-byte l = l.text ≡ l.fn.text ++ map column_byte (take l.byte-index l.byte-items)
