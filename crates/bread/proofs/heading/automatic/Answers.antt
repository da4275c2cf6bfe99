use Rattle.std.proofs.Common.{◌∙◌, ap, refl}
use Rattle.bread.proofs.Steps.{compiles_err}
use Rattle.bread.proofs.HeadingSteps.{automatic_first, automatic_then, automatic_took}
use Rattle.bemit.specs.Drafts as drafts
use Rattle.bread.proofs.Takings.{falls_before}
use Rattle.bread.proofs.heading.automatic.Goals as goal

pub returns-in_err-word : goal.returns-in_err-word
returns-in_err-word g c = compiles_err _ _ _ _ _ _ c.from_residual.result _ _ c.in_err-word.field-0.0 c.from_residual.ensures.1 (λ i. automatic_first _ _ c.in_err-word.field-0.0 c.in_err-word.ensures.tokens)

pub returns-in_err-size : goal.returns-in_err-size
returns-in_err-size g c = compiles_err _ _ _ _ _ _ c.from_residual-in_err-size.result _ _ c.in_err-size.field-0.0 c.from_residual-in_err-size.ensures.1 (λ i. automatic_then _ _ _ _ c.in_err-size.field-0.0 c.in_ok-word.ensures.tokens.runs c.in_err-size.ensures.tokens)

pub returns : goal.returns
returns g c =
    (λ i. automatic_took c.in_ok-word.word c.in_ok-size.size refl c.in_ok-word.ensures.tokens c.in_ok-size.ensures.tokens (c.declare.ensures ∙ ap (drafts.declared (record { text = c.in_ok-word.word.name; line = c.in_ok-word.word.line }) c.in_ok-size.size) (c.in_ok-size.ensures.draft ∙ c.in_ok-word.ensures.draft)), c.in_ok-size.ensures.tokens.single, falls_before c.in_ok-word.ensures.tokens.falls c.in_ok-size.ensures.tokens.runs.falls)
