use Rattle.bgrammar.proofs.SourceRows.{definitions_come, statements_come, cases_come, rvalues_come, assignments_come, operators_come, operands_come, refused_come, statements_of_two_come, refused_in_two_come}
use Rattle.bgrammar.proofs.rows_of_the_grammar.Goals as goal

pub returns-clause-definitions : goal.returns-clause-definitions
returns-clause-definitions c = definitions_come

pub returns-clause-statements : goal.returns-clause-statements
returns-clause-statements c = statements_come

pub returns-clause-cases : goal.returns-clause-cases
returns-clause-cases c = cases_come

pub returns-clause-rvalues : goal.returns-clause-rvalues
returns-clause-rvalues c = rvalues_come

pub returns-clause-assignments : goal.returns-clause-assignments
returns-clause-assignments c = assignments_come

pub returns-clause-operators : goal.returns-clause-operators
returns-clause-operators c = operators_come

pub returns-clause-operands : goal.returns-clause-operands
returns-clause-operands c = operands_come

pub returns-clause-refused : goal.returns-clause-refused
returns-clause-refused c = refused_come

pub returns-clause-statements_of_two : goal.returns-clause-statements_of_two
returns-clause-statements_of_two c = statements_of_two_come

pub returns-clause-refused_in_two : goal.returns-clause-refused_in_two
returns-clause-refused_in_two c = refused_in_two_come
