use Rattle.std.proofs.Common.{inr, subst, sym}
use Rattle.std.proofs.lemmas.List.{take-append-drop}
use Rattle.bcheck.specs.UndefinedNames.{IsNowhere}
use Rattle.bcheck.proofs.named.place_named.Goals as goal

pub returns-in-None : goal.returns-in-None
returns-in-None c =
    let source = c.args.source.now in
    inr (subst (λ s. IsNowhere c.args.name.now s) (sym (take-append-drop c.args.place.start source)) c.in-None.ensures)
