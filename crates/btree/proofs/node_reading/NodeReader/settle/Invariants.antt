use Rattle.std.proofs.Common.{◌≡◌, ◌++◌, length}
use Rattle.btree.specs.NodeMachine.{left_before, over_before}
use Rattle.btree.proofs.node_reading.NodeReader.settle.Given as goal

abbrev pub invariant-loop-node : goal.invariant-loop-node
invariant-loop-node l =
    (l.fn.self.tags.items ++ over_before l.bound l.fn.self.waiting ≡ l.self.tags.items ++ over_before l.bound l.self.waiting)
    × (left_before l.bound l.fn.self.waiting ≡ left_before l.bound l.self.waiting)

abbrev pub decreases-loop-node : goal.decreases-loop-node
decreases-loop-node l = length l.self.waiting
