use Rattle.bgrammar.proofs.OutcomeRows.{outcome_rows}
use Rattle.bgrammar.proofs.rows_of_outcomes.Goals as goal

pub returns : goal.returns
returns c = outcome_rows
