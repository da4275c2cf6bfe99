use Rattle.bcount.proofs.Together.{steps_add_up}
use Rattle.bcount.proofs.counting.steps_of_all_lines_add_up.Goals as goal

pub returns : goal.returns
returns c = steps_add_up
