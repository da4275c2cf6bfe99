use Rattle.bcareful.proofs.Steps.{stays_at_first}
use Rattle.bcareful.proofs.watching.careful_runs_stay_at_the_first_finding.Goals as goal

pub returns : goal.returns
returns c = stays_at_first
