use Rattle.bcheck.proofs.ChangesExcluded.{excluded}
use Rattle.bcheck.proofs.spares.wrong_changes_are_excluded.Goals as goal

pub returns : goal.returns
returns c = excluded
