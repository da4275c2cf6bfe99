use Rattle.std.proofs.Common.{IfSome, subst, sym}
use Rattle.std.specs.List.{All}
use Rattle.std.proofs.lemmas.List.Elements.{All-push}
use Rattle.bcheck.specs.Findings.{IsTried}
use Rattle.bcheck.proofs.mending.push_found.Goals as goal

pub returns-clause-tried : goal.returns-clause-tried
returns-clause-tried c = λ edition files source all is.
    subst (λ xs. All (IsTried edition files source) xs) (sym c.in_ok-push.ensures.items)
    (All-push (IsTried edition files source) _ _ all (subst (λ x. IfSome x (IsTried edition files source)) c.in-Some.is is))
