use Rattle.bgrammar.proofs.LawProofs.{reads_on}
use Rattle.bgrammar.proofs.reading_depends_on_one_token_more.Goals as goal

pub returns : goal.returns
returns c = reads_on
