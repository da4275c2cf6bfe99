use Rattle.std.proofs.Common.{arith, length-take, length-drop}
use Rattle.bword.proofs.Progress.{Appends-take-add}
use Rattle.bcore.proofs.block.write_on.Goals as goal

pub loop-at-preserved : goal.loop-at-preserved
loop-at-preserved g c =
    (omega (arith, simp (length-take, length-drop) at c.in-Ok.ensures.bound), Appends-take-add _ _ _ _ _ _ c.loop-at.invariant.1 c.in-Ok.ensures.bytes)
