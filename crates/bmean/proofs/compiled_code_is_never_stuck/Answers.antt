use Rattle.bmean.proofs.LawProofs.{code_agrees, image_agrees}
use Rattle.bmean.proofs.compiled_code_is_never_stuck.Goals as goal

pub returns-clause-code : goal.returns-clause-code
returns-clause-code c ds loads input = (code_agrees ds loads input).never_stuck

pub returns-clause-image : goal.returns-clause-image
returns-clause-image c ds image loads loaded input =
    (image_agrees c.resolving_changes_no_run.ensures ds image loads loaded input).never_stuck
