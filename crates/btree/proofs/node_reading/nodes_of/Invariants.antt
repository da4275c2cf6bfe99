use Rattle.std.proofs.Common.{◌≡◌, ◌++◌, [], drop}
use Rattle.btree.specs.declared.nodes.Stage.TheVariants as stage
use Rattle.btree.specs.NodeMachine.{node_run}
use Rattle.btree.proofs.node_reading.nodes_of.Given as goal

abbrev pub invariant-loop-index : goal.invariant-loop-index
invariant-loop-index l =
    node_run stage.Over [] l.lexemes ≡ l.reader.tags.items ++ node_run l.reader.stage l.reader.waiting (drop l.index l.lexemes)
