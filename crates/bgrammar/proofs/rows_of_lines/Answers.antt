use Rattle.bgrammar.proofs.LineRows.{all_lined, all_lined_of_two, are_left}
use Rattle.bgrammar.proofs.rows_of_lines.Goals as goal

pub returns-clause-lines : goal.returns-clause-lines
returns-clause-lines c = all_lined

pub returns-clause-two : goal.returns-clause-two
returns-clause-two c = all_lined_of_two

pub returns-clause-left : goal.returns-clause-left
returns-clause-left c = are_left
