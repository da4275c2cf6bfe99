use Rattle.brun.proofs.Unmigrated.{unmigrated}
use Rattle.brun.proofs.migrating.wrong_migrations_are_excluded.Goals as goal

pub returns : goal.returns
returns c = unmigrated
