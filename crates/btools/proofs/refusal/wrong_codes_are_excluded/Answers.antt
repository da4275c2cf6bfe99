use Rattle.btools.proofs.CodesExcluded.{codes_excluded}
use Rattle.btools.proofs.refusal.wrong_codes_are_excluded.Goals as goal

pub returns : goal.returns
returns c = codes_excluded
