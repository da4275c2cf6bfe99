use Rattle.std.proofs.Common.{length}
use Rattle.btree.specs.Machine.{close}
use Rattle.btree.proofs.Loops.{Goes}
use Rattle.btree.proofs.reading.Reader.close.Given as goal

abbrev pub invariant-loop-self : goal.invariant-loop-self
invariant-loop-self l = Goes l.fn.self (close l.fn.self.opens) l.self (close l.self.opens)

abbrev pub decreases-loop-self : goal.decreases-loop-self
decreases-loop-self l = length l.self.opens
