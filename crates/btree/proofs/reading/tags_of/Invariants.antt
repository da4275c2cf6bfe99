use Rattle.std.proofs.Common.{◌≡◌, ◌++◌, [], drop}
use Rattle.btree.specs.declared.tags.Phase.TheVariants as phase
use Rattle.btree.specs.Machine.{run}
use Rattle.btree.proofs.reading.tags_of.Given as goal

abbrev pub invariant-loop-index : goal.invariant-loop-index
invariant-loop-index l =
    run phase.Start [] l.sorts ≡ l.reader.tags.items ++ run l.reader.phase l.reader.opens (drop l.index l.sorts)
