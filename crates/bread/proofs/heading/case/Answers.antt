use Rattle.std.proofs.Common.{◌∙◌, ap}
use Rattle.bread.proofs.Steps.{compiles_err}
use Rattle.bemit.specs.Drafts.{selected}
use Rattle.bread.proofs.Takings.{both_fall}
use Rattle.bread.proofs.HeadingSteps.{case_first, case_then, case_took}
use Rattle.bread.proofs.heading.case.Goals as goal

pub returns-in_err-value : goal.returns-in_err-value
returns-in_err-value g c = compiles_err _ _ _ _ _ _ c.from_residual.result _ _ c.in_err-value.field-0.0 c.from_residual.ensures.1 (λ i. case_first c.args.line _ _ c.in_err-value.field-0.0 c.in_err-value.ensures.tokens)

pub returns-in_err-expect : goal.returns-in_err-expect
returns-in_err-expect g c = compiles_err _ _ _ _ _ _ c.from_residual-in_err-expect.result _ _ c.in_err-expect.field-0.0 c.from_residual-in_err-expect.ensures.1 (λ i. case_then c.args.line _ _ _ _ c.in_err-expect.field-0.0 c.in_ok-value.ensures.tokens c.in_err-expect.ensures.tokens)

pub returns : goal.returns
returns g c = (λ i. case_took c.args.line _ c.in_ok-value.ensures.tokens c.in_ok-expect.ensures.tokens (c.case.ensures ∙ ap (selected c.args.line c.in_ok-value.value) (c.in_ok-expect.ensures.draft ∙ c.in_ok-value.ensures.draft)), c.in_ok-expect.ensures.tokens.single, both_fall c.in_ok-value.ensures.tokens.falls c.in_ok-expect.ensures.tokens.falls)
