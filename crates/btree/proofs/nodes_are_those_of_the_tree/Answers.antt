use Rattle.btree.proofs.NodesOfPrograms.{nodes_of_program}
use Rattle.btree.proofs.nodes_are_those_of_the_tree.Goals as goal

pub returns : goal.returns
returns c = nodes_of_program
