use Rattle.bsources.proofs.LineLemmas.{pushed}
use Rattle.bsources.proofs.following.Following.push.Goals as goal

pub invariant_of-self-2 : goal.invariant_of-self-2
invariant_of-self-2 c = pushed _ c.push-2.new.self.items _ _ c.self.invariant c.in_ok-push-2.ensures.items c.in-Some.ensures.1
