use Rattle.std.proofs.Common.{IsTrue, take}
use Rattle.bcheck.specs.Checks.{is_in_line}
use Rattle.bcheck.proofs.excerpt.line_length.Given as goal

abbrev pub invariant-loop-index : goal.invariant-loop-index
invariant-loop-index l = IsTrue (is_in_line (take l.index l.rest))
