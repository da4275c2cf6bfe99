use Rattle.bcommand.proofs.Shapes.{extended}
use Rattle.bcommand.proofs.commands.line_of.Goals as goal

pub loop-row-preserved : goal.loop-row-preserved
loop-row-preserved c =
    extended _ _ _ c.args.rows.now c.loop-row.row-index c.loop-row-test.true c.in_ok-all-2.ensures c.loop-row.invariant c.in_ok-command_of.ensures
