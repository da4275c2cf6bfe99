use Rattle.bnaming.proofs.DefinitionNames.{names_of_program}
use Rattle.bnaming.proofs.naming.names_are_those_of_definitions.Goals as goal

pub returns : goal.returns
returns c = names_of_program c.tags_are_those_of_the_tree.ensures
