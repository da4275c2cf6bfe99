use Rattle.bsources.proofs.LineLemmas.{lines_lie}
use Rattle.bsources.proofs.files.lines_lie_in_their_files.Goals as goal

pub returns : goal.returns
returns c = lines_lie
