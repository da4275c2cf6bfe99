use Rattle.std.proofs.Common.{sym, ◌∙◌}
use Rattle.bread.proofs.Steps.{compiles_err}
use Rattle.bread.proofs.StatementSteps.{returned_value, returned_halts, returned_took}
use Rattle.bread.proofs.statement.returned.Goals as goal

pub returns-then-is_at : goal.returns-then-is_at
returns-then-is_at g c = returned_value c.args.room _ _ c.in_ok-advance.ensures.ok (sym c.is_at.ensures ∙ c.if-is_at.true) _ c.return_value.result _ _ c.return_value.ensures

pub returns-in_err-expect : goal.returns-in_err-expect
returns-in_err-expect g c = compiles_err _ _ _ _ _ _ c.from_residual-in_err-expect.result _ _ c.in_err-expect.field-0.0 c.from_residual-in_err-expect.ensures.1 (λ i. returned_halts c.args.room _ c.requires.0 (sym c.is_at.ensures ∙ c.if-is_at.false) i _ c.in_err-expect.field-0.0 c.in_err-expect.ensures.tokens)

pub returns : goal.returns
returns g c = (λ i. returned_took c.args.room _ c.requires.0 (sym c.is_at.ensures ∙ c.if-is_at.false) i _ _ _ _ _ c.in_ok-expect.ensures.tokens c.in_ok-expect.ensures.draft c.emit.ensures c.emit-2.ensures, c.in_ok-expect.ensures.tokens.single, c.in_ok-expect.ensures.tokens.falls)
