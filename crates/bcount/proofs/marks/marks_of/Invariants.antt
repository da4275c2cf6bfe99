use Rattle.std.proofs.Common.{◌≡◌, take}
use Rattle.bcount.specs.Marks.{by_cost}
use Rattle.bcount.specs.declared.marks.TheConstants.{MARKED}
use Rattle.bcount.proofs.marks.marks_of.Given as goal

abbrev pub invariant-loop-index : goal.invariant-loop-index
invariant-loop-index l = l.marks.items ≡ take MARKED (by_cost l.lines l.index)
