use Rattle.btrace.proofs.TraceExcluded.{excluded}
use Rattle.btrace.proofs.tracing.wrong_traces_are_excluded.Goals as goal

pub returns : goal.returns
returns c = excluded
