use Rattle.std.proofs.Common.{◌≡◌, ◌++◌, replicate}
use Rattle.bcheck.proofs.pieces.push_marks.Given as goal

abbrev pub invariant-loop-marked : goal.invariant-loop-marked
invariant-loop-marked l = l.text ≡ l.fn.text ++ replicate l.marked 94
