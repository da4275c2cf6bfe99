use Rattle.btrace.specs.RowTexts.{margin}
use Rattle.btrace.proofs.rows.push_margin.Goals as goal

pub returns : goal.returns
unfolding margin
returns c = c.push_blanks.ensures
