use Rattle.bsession.proofs.OneRun.{one_run}
use Rattle.bsession.proofs.law.slices_are_one_run.Goals as goal

pub returns : goal.returns
returns c = one_run
