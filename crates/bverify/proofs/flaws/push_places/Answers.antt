use Rattle.std.proofs.Common.{◌∙◌}
use Rattle.bverify.proofs.FlawLists.{flaws_on}
use Rattle.bverify.proofs.flaws.push_places.Goals as goal

pub loop-place-preserved : goal.loop-place-preserved
loop-place-preserved c =
    flaws_on c.args.targets.now c.args.depths.now c.args.code.now c.loop-place.place c.index-code-place.result c.loop-place.flaws.items c.push_place.new.flaws.items c.loop-place-test.true c.index-code-place.is c.in_ok-push_place.ensures
    ∙ c.loop-place.invariant
