use Rattle.bgrammar.proofs.EditionLaws.{begins_old, old_tokens_old_tree, part_of_old}
use Rattle.bgrammar.proofs.EditionTokens.{tokens_of_one}
use Rattle.bgrammar.proofs.the_first_edition_stays.Goals as goal

pub returns-clause-tokens : goal.returns-clause-tokens
returns-clause-tokens c = tokens_of_one

pub returns-clause-trees : goal.returns-clause-trees
returns-clause-trees c = old_tokens_old_tree

pub returns-clause-begins : goal.returns-clause-begins
returns-clause-begins c = begins_old

pub returns-clause-part : goal.returns-clause-part
returns-clause-part c = part_of_old
