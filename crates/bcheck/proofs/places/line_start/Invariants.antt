use Rattle.std.proofs.Common.{◌≡◌, ◌≤◌, take}
use Rattle.blang.specs.Cut.{line_number_after}
use Rattle.bcheck.proofs.places.line_start.Given as goal

abbrev pub invariant-loop-index : goal.invariant-loop-index
invariant-loop-index l = (l.now ≡ line_number_after 1 (take l.index l.source)) × (l.now ≤ l.line)
