use Rattle.bauthor.proofs.NameLaws.{written_are_read}
use Rattle.bauthor.proofs.written_names_are_read.Goals as goal

pub returns : goal.returns
returns c = written_are_read
