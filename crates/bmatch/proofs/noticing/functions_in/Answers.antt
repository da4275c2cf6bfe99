use Rattle.bmatch.specs.Notices.{functions_at}
use Rattle.bmatch.proofs.Passing.{range_turn}
use Rattle.bmatch.proofs.noticing.functions_in.Goals as goal

pub loop-index-preserved : goal.loop-index-preserved
loop-index-preserved c =
    range_turn (functions_at c.args.tree.now) _ c.loop-index.index c.loop-index.spans.items _ _ c.loop-index-test.true c.in_ok-take_function.ensures c.loop-index.invariant
