use Rattle.bread.proofs.Steps.{compiles_err}
use Rattle.bread.proofs.StatementSteps.{condition_first, condition_then, condition_ends}
use Rattle.bread.proofs.statement.condition.Goals as goal

pub returns-in_err-expect : goal.returns-in_err-expect
returns-in_err-expect g c = compiles_err _ _ _ _ _ _ c.from_residual.result _ _ c.in_err-expect.field-0.0 c.from_residual.ensures.1 (λ i. condition_first c.args.room i _ _ c.in_err-expect.field-0.0 c.in_err-expect.ensures.tokens)

pub returns-in_err-evaluate : goal.returns-in_err-evaluate
returns-in_err-evaluate g c = compiles_err _ _ _ _ _ _ c.from_residual-in_err-evaluate.result _ _ c.in_err-evaluate.field-0.0 c.from_residual-in_err-evaluate.ensures.1 (λ i. condition_then c.args.room i _ _ _ c.in_err-evaluate.field-0.0 c.in_ok-expect.ensures.tokens.runs (c.in_err-evaluate.ensures i))

pub returns : goal.returns
returns g c = condition_ends c.args.room _ _ _ _ _ _ _ c.expect-2.result _ c.in_ok-expect.ensures.tokens c.in_ok-expect.ensures.draft c.in_ok-evaluate.ensures.0 c.expect-2.ensures.tokens c.expect-2.ensures.draft
