use Rattle.std.proofs.Common.{◌≡◌, ◌++◌, length}
use Rattle.btree.specs.Machine.{closings}
use Rattle.btree.proofs.reading.Reader.end_all.Given as goal

abbrev pub invariant-loop-self : goal.invariant-loop-self
invariant-loop-self l = l.fn.self.tags.items ++ closings l.fn.self.opens ≡ l.self.tags.items ++ closings l.self.opens

abbrev pub decreases-loop-self : goal.decreases-loop-self
decreases-loop-self l = length l.self.opens
