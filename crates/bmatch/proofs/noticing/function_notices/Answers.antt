use Rattle.bmatch.specs.Notices.{root_notices}
use Rattle.bmatch.proofs.Passing.{range_turn}
use Rattle.bmatch.proofs.noticing.function_notices.Goals as goal

pub loop-root-preserved : goal.loop-root-preserved
loop-root-preserved c =
    range_turn (root_notices c.args.tree.now c.args.table.now c.args.rule.now c.args.function) _ c.loop-root.root c.loop-root.found.items _ _ c.loop-root-test.true c.in_ok-root_notices.ensures c.loop-root.invariant
