use Rattle.std.proofs.Common.{◌∙◌, ap, sym}
use Rattle.blint.specs.Noticed.{warning_of}
use Rattle.blint.proofs.matched.warning_of.Goals as goal

pub returns-in-Some : goal.returns-in-Some
returns-in-Some c = c.warning_at.ensures ∙ ap warning_of (sym c.in-Some.is)
