use Rattle.btrace.proofs.TraceExcluded.{places_excluded}
use Rattle.btrace.proofs.locating.wrong_places_are_excluded.Goals as goal

pub returns : goal.returns
returns c = places_excluded
