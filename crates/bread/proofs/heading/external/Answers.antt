use Rattle.std.proofs.Common.{◌∙◌, ap, refl}
use Rattle.bemit.specs.Drafts.{imported}
use Rattle.bread.proofs.HeadingSteps.{named_took}
use Rattle.bread.proofs.heading.external.Goals as goal

pub returns : goal.returns
returns g c = let w = c.in_ok-word.word in named_took imported w refl c.in_ok-word.ensures.tokens (c.import.ensures ∙ ap (imported (record { text = w.name; line = w.line })) c.in_ok-word.ensures.draft)
