use Rattle.bmean.proofs.LawProofs.{code_agrees, image_agrees}
use Rattle.bmean.proofs.the_code_does_what_the_program_means.Goals as goal

pub returns-clause-code : goal.returns-clause-code
returns-clause-code c ds loads input = (code_agrees ds loads input).halts_as_meant

pub returns-clause-image : goal.returns-clause-image
returns-clause-image c ds image loads loaded input =
    (image_agrees c.resolving_changes_no_run.ensures ds image loads loaded input).halts_as_meant
