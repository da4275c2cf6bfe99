use Rattle.btools.proofs.ProgramsExcluded.{excluded}
use Rattle.btools.proofs.refusal.wrong_programs_are_excluded.Goals as goal

pub returns : goal.returns
returns c = excluded
