use Rattle.std.proofs.Common.{◌<◌, arith}
use Rattle.bcheck.proofs.TokenPlaces.{line_near}
use Rattle.bplaces.proofs.ColumnSteps.{line_more}
use Rattle.bcheck.proofs.places.line_start.Goals as goal

pub loop-index-preserved : goal.loop-index-preserved
loop-index-preserved c =
    let now = c.loop-index.now in
    let before : now < c.args.line = omega (arith, c.loop-index.invariant.1, c.if-now-line.false) in (
      line_more 1 _ _ c.args.source.now c.loop-index.index c.loop-index-test.true c.loop-index.invariant.0 c.next_line-now.ensures,
      rw c.next_line-now.ensures (line_near _ now c.args.line before),
    )
