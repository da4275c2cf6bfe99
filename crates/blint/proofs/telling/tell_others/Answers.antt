use Rattle.blint.proofs.ToldSteps.{no_others, others_after}
use Rattle.blint.proofs.telling.tell_others.Goals as goal

pub loop-index-init : goal.loop-index-init
loop-index-init c = no_others _ _

pub loop-index-preserved : goal.loop-index-preserved
loop-index-preserved c = others_after _ _ _ _ _ c.if-other-start.false c.loop-index.invariant c.in_ok-tell_other.ensures
