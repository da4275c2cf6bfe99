use Rattle.std.proofs.Common.{◌<◌, arith, length}
use Rattle.bplaces.proofs.UnitSteps.{units_more}
use Rattle.bplaces.proofs.units.UnitPlace.along.Goals as goal

pub loop-index-preserved : goal.loop-index-preserved
loop-index-preserved c =
    let l = c.loop-index in
    let within : l.index < length c.args.text.now = omega (arith, c.loop-index-test.true, c.requires) in
    units_more c.args.self _ _ c.args.text.now l.index within l.invariant c.after-units.ensures
