use Rattle.bgrammar.proofs.ReadingBack.{reads_back}
use Rattle.bgrammar.proofs.what_is_written_is_read_back.Goals as goal

pub returns : goal.returns
returns c = reads_back
