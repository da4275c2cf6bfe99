use Rattle.bread.proofs.StatementSteps.{goto_ends}
use Rattle.bread.proofs.statement.goto.Goals as goal

pub returns : goal.returns
returns g c = goto_ends c.args.room _ _ _ c.ended.result _ _ c.in_ok-advance.ensures.ok c.ended.ensures
