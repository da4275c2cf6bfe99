use Rattle.bcode.proofs.CodeExcluded.{excluded}
use Rattle.bcode.proofs.reader.wrong_readers_are_excluded.Goals as goal

pub returns : goal.returns
returns c = excluded
