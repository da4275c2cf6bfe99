use Rattle.bplaces.proofs.ColumnSteps.{line_more}
use Rattle.bcheck.proofs.places.line_after.Goals as goal

pub loop-byte-preserved : goal.loop-byte-preserved
loop-byte-preserved c = line_more 1 _ _ c.args.text.now c.loop-byte.byte-index c.loop-byte-test.true c.loop-byte.invariant c.next_line-line.ensures
