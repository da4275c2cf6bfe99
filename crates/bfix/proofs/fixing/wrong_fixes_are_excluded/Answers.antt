use Rattle.bfix.proofs.FixExcluded.{wrong_fixes}
use Rattle.bfix.proofs.fixing.wrong_fixes_are_excluded.Goals as goal

pub returns : goal.returns
returns c = wrong_fixes
