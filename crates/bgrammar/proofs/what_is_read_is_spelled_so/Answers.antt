use Rattle.bgrammar.proofs.LawProofs.{reads_spelling, definition_read, statement_read, expression_read}
use Rattle.bgrammar.proofs.what_is_read_is_spelled_so.Goals as goal

pub returns-clause-kept : goal.returns-clause-kept
returns-clause-kept c = reads_spelling

pub returns-clause-definitions : goal.returns-clause-definitions
returns-clause-definitions c = definition_read

pub returns-clause-statements : goal.returns-clause-statements
returns-clause-statements c = statement_read

pub returns-clause-expressions : goal.returns-clause-expressions
returns-clause-expressions c = expression_read
