use Rattle.bmean.proofs.LawProofs.{code_agrees, image_agrees}
use Rattle.bmean.proofs.a_program_that_wants_fuel_still_runs.Goals as goal

pub returns-clause-code : goal.returns-clause-code
returns-clause-code c ds loads input = (code_agrees ds loads input).wants_as_it_runs

pub returns-clause-image : goal.returns-clause-image
returns-clause-image c ds image loads loaded input =
    (image_agrees c.resolving_changes_no_run.ensures ds image loads loaded input).wants_as_it_runs
