use Rattle.bshow.specs.Shows.{tail}
use Rattle.bshow.proofs.parts.push_tail.Goals as goal

pub returns : goal.returns
unfolding tail
returns c = c.push.ensures
