use Rattle.bgrammar.proofs.LawProofs.{lines_unread}
use Rattle.bgrammar.proofs.other_lines_are_never_read.Goals as goal

pub returns : goal.returns
returns c = lines_unread
