use Rattle.std.proofs.Common.{◌∙◌, ap}
use Rattle.bemit.specs.Drafts.{defaulted}
use Rattle.bread.proofs.Steps.{compiles_err}
use Rattle.bread.proofs.HeadingSteps.{default_halts, default_took}
use Rattle.bread.proofs.heading.default.Goals as goal

pub returns-in_err-expect : goal.returns-in_err-expect
returns-in_err-expect g c = compiles_err _ _ _ _ _ _ c.from_residual.result _ _ c.in_err-expect.field-0.0 c.from_residual.ensures.1 (λ i. default_halts c.args.line _ _ c.in_err-expect.field-0.0 c.in_err-expect.ensures.tokens)

pub returns : goal.returns
returns g c = (λ i. default_took c.args.line c.in_ok-expect.ensures.tokens (c.default.ensures ∙ ap (defaulted c.args.line) c.in_ok-expect.ensures.draft), c.in_ok-expect.ensures.tokens.single, c.in_ok-expect.ensures.tokens.falls)
