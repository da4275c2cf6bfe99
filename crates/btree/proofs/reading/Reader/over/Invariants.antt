use Rattle.std.proofs.Common.{length}
use Rattle.btree.specs.Machine.{over}
use Rattle.btree.proofs.Loops.{Goes}
use Rattle.btree.proofs.reading.Reader.over.Given as goal

abbrev pub invariant-loop-self : goal.invariant-loop-self
invariant-loop-self l = Goes l.fn.self (over l.fn.self.opens l.fn.sort l.fn.next) l.self (over l.self.opens l.fn.sort l.fn.next)

abbrev pub decreases-loop-self : goal.decreases-loop-self
decreases-loop-self l = length l.self.opens
