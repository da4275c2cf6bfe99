use Rattle.bparse.proofs.LocalRows.{all_named, all_named_of_two, has_table}
use Rattle.bparse.proofs.compiling.rows_of_names.Goals as goal

pub returns-clause-one : goal.returns-clause-one
returns-clause-one c = all_named

pub returns-clause-two : goal.returns-clause-two
returns-clause-two c = all_named_of_two

pub returns-clause-table : goal.returns-clause-table
returns-clause-table c = has_table
