use Rattle.std.proofs.Common.{◌<◌, get_or, length, subst, sym}
use Rattle.bcheck.proofs.TokenPlaces.{below_min}
use Rattle.bplaces.proofs.ColumnSteps.{column_more, column_some, line_more}
use Rattle.bplaces.proofs.UnitSteps.{units_more}
use Rattle.bplaces.specs.Units.{first_unit}
use Rattle.bcheck.proofs.places.position.Goals as goal

pub loop-index-preserved : goal.loop-index-preserved
loop-index-preserved c =
    let l = c.loop-index in
    let source = c.args.source.now in
    let within = below_min l.index c.min-index-end.result c.args.start (length source) c.loop-index-test.true c.min-index-end.ensures in (
      line_more 1 _ _ source l.index within l.invariant.0 c.next_line-line.ensures,
      column_more 1 _ _ source l.index within l.invariant.1 c.next_column-column.ensures,
      subst (λ n. 0 < n) (sym c.next_column-column.ensures) (column_some l.column (get_or source l.index 0)),
      units_more first_unit _ _ source l.index within l.invariant.3 c.after-units.ensures,
    )
