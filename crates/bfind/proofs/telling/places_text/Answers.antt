use Rattle.bfind.specs.Finds.{notice_text, telling_of}
use Rattle.bmatch.proofs.Passing.{range_turn}
use Rattle.bfind.proofs.telling.places_text.Goals as goal

pub loop-index-preserved : goal.loop-index-preserved
loop-index-preserved c =
    range_turn (notice_text (telling_of c.args.setting.now) c.args.found.now) _ c.loop-index.index c.loop-index.text _ _ c.loop-index-test.true c.in_ok-push_notice.ensures c.loop-index.invariant
