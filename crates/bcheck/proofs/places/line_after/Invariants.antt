use Rattle.std.proofs.Common.{◌≡◌, take}
use Rattle.blang.specs.Cut.{line_number_after}
use Rattle.bcheck.proofs.places.line_after.Given as goal

abbrev pub invariant-loop-byte : goal.invariant-loop-byte
invariant-loop-byte l = l.line ≡ line_number_after 1 (take l.byte-index l.text)
