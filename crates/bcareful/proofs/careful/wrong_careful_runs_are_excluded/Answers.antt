use Rattle.bcareful.proofs.CareExcluded.{no_careful_runs}
use Rattle.bcareful.proofs.careful.wrong_careful_runs_are_excluded.Goals as goal

pub returns : goal.returns
returns c = no_careful_runs
