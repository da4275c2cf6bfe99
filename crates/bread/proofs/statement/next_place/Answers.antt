use Rattle.bread.proofs.StatementSteps.{place_is}
use Rattle.bread.proofs.statement.next_place.Goals as goal

pub returns-clause-place : goal.returns-clause-place
returns-clause-place c = place_is c.args.draft.now c.code.result.now c.place.result c.place.ensures.place c.if-place-eq0.false c.code.ensures.code
