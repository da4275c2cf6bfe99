use Rattle.std.proofs.Common.{subst, sym}
use Rattle.std.specs.List.{All}
use Rattle.std.proofs.lemmas.List.Elements.{All-push}
use Rattle.bcheck.specs.Findings.{IsMilestone}
use Rattle.bcheck.proofs.places.push_milestone.Goals as goal

pub returns : goal.returns
returns c = λ source all is.
    subst (λ xs. All (IsMilestone source) xs) (sym c.in_ok-push.ensures.items) (All-push (IsMilestone source) _ _ all is)
