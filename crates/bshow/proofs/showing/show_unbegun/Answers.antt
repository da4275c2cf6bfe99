use Rattle.std.proofs.Common.{◌∙◌, ℕ, List, inl, subst}
use Rattle.blang.specs.declared.status.TheConstants.{DONE}
use Rattle.blang.specs.Reports.{Reported}
use Rattle.bshow.proofs.showing.show_unbegun.Goals as goal

pub returns-clause-shows : goal.returns-clause-shows
returns-clause-shows g c =
    inl (subst (λ (t : List ℕ). Reported t DONE (g.O.ByteOut.outgoing c.args.out.now) (g.O.ByteOut.outgoing c.tell.new.out) c.tell.result) (c.as_slice.ensures ∙ c.in-Ok.ensures) c.tell.ensures.told)
