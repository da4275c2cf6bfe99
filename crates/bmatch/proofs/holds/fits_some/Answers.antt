use Rattle.bmatch.specs.Holds.{some_at}
use Rattle.bmatch.proofs.Passing.{range_turn}
use Rattle.bmatch.proofs.holds.fits_some.Goals as goal

pub loop-index-preserved : goal.loop-index-preserved
loop-index-preserved c =
    range_turn (some_at c.args.site.now c.args.sought.now c.args.binds) _ c.loop-index.index c.loop-index.found.items _ _ c.loop-index-test.true c.in_ok-some_at.ensures c.loop-index.invariant
