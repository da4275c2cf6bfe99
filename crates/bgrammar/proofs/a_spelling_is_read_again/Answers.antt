use Rattle.bgrammar.proofs.LawProofs.{reads_again}
use Rattle.bgrammar.proofs.a_spelling_is_read_again.Goals as goal

pub returns : goal.returns
returns c = reads_again
