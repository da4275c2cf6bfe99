use Rattle.std.proofs.Common.{◌<◌, arith, get_or, subst, sym}
use Rattle.bplaces.proofs.ColumnSteps.{column_more, column_some, line_more}
use Rattle.bplaces.proofs.UnitSteps.{units_more}
use Rattle.bplaces.specs.Units.{first_unit}
use Rattle.bcheck.proofs.places.milestones.Goals as goal

pub loop-start-preserved : goal.loop-start-preserved
loop-start-preserved c =
    let l = c.loop-start in
    let source = c.args.source.now in
    let within = c.loop-start-test.true in (
      line_more 1 _ _ source l.start within l.invariant.0 c.next_line-line.ensures,
      column_more 1 _ _ source l.start within l.invariant.1 c.next_column-column.ensures,
      subst (λ n. 0 < n) (sym c.next_column-column.ensures) (column_some l.column (get_or source l.start 0)),
      units_more first_unit _ _ source l.start within l.invariant.3 c.after-units.ensures,
      c.in_ok-push_milestone.ensures source l.invariant.4 (record { within = omega (arith, within); line = l.invariant.0; column = l.invariant.1; some = l.invariant.2; units = l.invariant.3 }),
    )
