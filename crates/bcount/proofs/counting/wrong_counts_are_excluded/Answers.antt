use Rattle.bcount.proofs.CountExcluded.{excluded}
use Rattle.bcount.proofs.counting.wrong_counts_are_excluded.Goals as goal

pub returns : goal.returns
returns c = excluded
