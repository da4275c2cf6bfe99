use Rattle.std.proofs.Common.{◌∙◌, ap}
use Rattle.bemit.specs.Drafts.{emitted}
use Rattle.bread.proofs.Steps.{compiles_err}
use Rattle.bread.proofs.Takings.{falls_after}
use Rattle.bread.proofs.StatementSteps.{ended_first, ended_then, ended_took}
use Rattle.bread.proofs.statement.ended.Goals as goal

pub returns-in_err-evaluate : goal.returns-in_err-evaluate
returns-in_err-evaluate g c = compiles_err _ _ _ _ _ _ c.from_residual.result _ _ c.in_err-evaluate.field-0.0 c.from_residual.ensures.1 (λ i. ended_first c.args.room i _ _ c.in_err-evaluate.field-0.0 (c.in_err-evaluate.ensures i))

pub returns-in_err-expect : goal.returns-in_err-expect
returns-in_err-expect g c = compiles_err _ _ _ _ _ _ c.from_residual-in_err-expect.result _ _ c.in_err-expect.field-0.0 c.from_residual-in_err-expect.ensures.1 (λ i. let t = c.in_ok-evaluate.ensures.0 i in ended_then c.args.room i _ _ _ t.tree c.in_err-expect.field-0.0 t.runs c.in_err-expect.ensures.tokens)

pub returns : goal.returns
returns g c = (λ i. ended_took c.args.room c.args.last (c.in_ok-evaluate.ensures.0 i) c.in_ok-expect.ensures.tokens (c.emit.ensures ∙ ap (emitted c.args.last) c.in_ok-expect.ensures.draft), c.in_ok-expect.ensures.tokens.single, falls_after (c.in_ok-evaluate.ensures.0 0).runs.falls c.in_ok-expect.ensures.tokens.falls)
