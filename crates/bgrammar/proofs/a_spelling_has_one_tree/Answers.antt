use Rattle.bgrammar.proofs.LawProofs.{one_expression, one_statement, one_definition}
use Rattle.bgrammar.proofs.a_spelling_has_one_tree.Goals as goal

pub returns-clause-expressions : goal.returns-clause-expressions
returns-clause-expressions c = one_expression

pub returns-clause-statements : goal.returns-clause-statements
returns-clause-statements c = one_statement

pub returns-clause-definitions : goal.returns-clause-definitions
returns-clause-definitions c = one_definition
