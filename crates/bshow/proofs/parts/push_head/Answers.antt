use Rattle.bshow.specs.Shows.{head}
use Rattle.bshow.proofs.parts.push_head.Goals as goal

pub returns : goal.returns
unfolding head
returns c = c.push.ensures
