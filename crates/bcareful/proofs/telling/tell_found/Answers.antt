use Rattle.std.proofs.Common.{◌∙◌, List, ℕ, inl, subst}
use Rattle.blang.specs.Reports.{Reported}
use Rattle.blang.specs.declared.status.TheConstants.{TRAP}
use Rattle.bcareful.proofs.telling.tell_found.Goals as goal

pub returns-in-Ok-clause-told : goal.returns-in-Ok-clause-told
returns-in-Ok-clause-told g c output =
    inl
    (subst (λ (t : List ℕ). Reported t TRAP (g.D.ByteOut.outgoing c.args.diag.now) (g.D.ByteOut.outgoing c.tell.new.out) c.tell.result) (c.as_slice.ensures ∙ c.in-Ok.ensures output) c.tell.ensures.told)
