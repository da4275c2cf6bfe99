use Rattle.std.proofs.Common.{◌<◌, arith, length}
use Rattle.bplaces.proofs.ColumnSteps.{column_more, line_more}
use Rattle.bplaces.proofs.UnitSteps.{units_more}
use Rattle.bplaces.specs.Units.{first_unit}
use Rattle.bnaming.proofs.places.Mark.to.Goals as goal

pub loop-index-preserved : goal.loop-index-preserved
loop-index-preserved c =
    let l = c.loop-index in
    let source = c.args.source.now in
    let within : l.index < length source = omega (arith, c.loop-index-test.true, c.requires.within) in (
      line_more 1 _ _ source l.index within l.invariant.0 c.next_line-line.ensures,
      column_more 1 _ _ source l.index within l.invariant.1 c.next_column-column.ensures,
      units_more first_unit _ _ source l.index within l.invariant.2 c.after-units.ensures,
    )
