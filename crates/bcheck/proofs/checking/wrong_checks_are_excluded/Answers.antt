use Rattle.bcheck.proofs.CheckExcluded.{excluded}
use Rattle.bcheck.proofs.checking.wrong_checks_are_excluded.Goals as goal

pub returns : goal.returns
returns c = excluded
