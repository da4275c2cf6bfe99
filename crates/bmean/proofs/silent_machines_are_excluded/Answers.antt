use Rattle.bmean.proofs.Endless.{silence}
use Rattle.bmean.proofs.silent_machines_are_excluded.Goals as goal

pub returns : goal.returns
returns c = silence
