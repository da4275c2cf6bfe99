use Rattle.brun.proofs.OneRun.{one_run, one_compilation}
use Rattle.brun.proofs.source.one_run_is_known.Goals as goal

pub returns-clause-run : goal.returns-clause-run
returns-clause-run c = one_run

pub returns-clause-compilation : goal.returns-clause-compilation
returns-clause-compilation c = one_compilation
