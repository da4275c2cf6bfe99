use Rattle.bnaming.proofs.DefinitionRows.{bindings_of_program}
use Rattle.bnaming.proofs.naming.names_are_looked_for_in_definitions.Goals as goal

pub returns : goal.returns
returns c = bindings_of_program c.tags_are_those_of_the_tree.ensures
