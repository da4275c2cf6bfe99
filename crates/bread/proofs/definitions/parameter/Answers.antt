use Rattle.std.proofs.Common.{◌∙◌, ap, None, refl}
use Rattle.bemit.specs.Drafts as drafts
use Rattle.bread.proofs.HeadingSteps.{named_took}
use Rattle.bread.proofs.definitions.parameter.Goals as goal

pub returns : goal.returns
returns g c = let w = c.in_ok-word.word in named_took (λ x d. drafts.declared x None d) w refl c.in_ok-word.ensures.tokens (c.declare.ensures ∙ ap (drafts.declared (record { text = w.name; line = w.line }) None) c.in_ok-word.ensures.draft)
