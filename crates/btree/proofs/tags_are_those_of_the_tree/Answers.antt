use Rattle.btree.proofs.Definitions.{tags_of_program}
use Rattle.btree.proofs.tags_are_those_of_the_tree.Goals as goal

pub returns : goal.returns
returns c = tags_of_program
