use Rattle.bauthor.proofs.LineLaws.{written_lines_read}
use Rattle.bauthor.proofs.written_lines_are_read.Goals as goal

pub returns : goal.returns
returns c = written_lines_read
