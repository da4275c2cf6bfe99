use Rattle.std.proofs.Common.{◌∙◌, List, ℕ, inl, inr, refl, subst}
use Rattle.blang.specs.Reports.{Reported}
use Rattle.btrace.proofs.locating.tell_site.Goals as goal

pub returns-in-Ok-clause-tells : goal.returns-in-Ok-clause-tells
returns-in-Ok-clause-tells g c =
    inl
    (subst (λ (t : List ℕ). Reported t c.args.status (g.D.ByteOut.outgoing c.args.diag.now) (g.D.ByteOut.outgoing c.tell.new.out) c.tell.result) (c.as_slice.ensures ∙ c.in-Ok.ensures) c.tell.ensures.told)

pub returns-in-Err-clause-tells : goal.returns-in-Err-clause-tells
returns-in-Err-clause-tells g c = inr (refl, refl)
