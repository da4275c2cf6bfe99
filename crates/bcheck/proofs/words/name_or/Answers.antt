use Rattle.bcheck.proofs.OnLine.{name_on_line}
use Rattle.bcheck.proofs.words.name_or.Goals as goal

pub returns-in-Some-clause-on_line : goal.returns-in-Some-clause-on_line
returns-in-Some-clause-on_line c = name_on_line c.as_bytes.result.now c.as_bytes.ensures.name
