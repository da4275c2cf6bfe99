use Rattle.std.proofs.Common.{◌∙◌, ℕ, List, inl, refl, subst}
use Rattle.blang.specs.Reports.{Reported}
use Rattle.bcore.proofs.serving.name_file.Goals as goal

pub returns-in-Ok-clause-names : goal.returns-in-Ok-clause-names
returns-in-Ok-clause-names g c unread out =
    inl (
      c.in-Device.is,
      record { unread = refl; silent = refl },
      subst (λ (t : List ℕ). Reported t 133 (g.D.ByteOut.outgoing c.args.diag.now) (g.D.ByteOut.outgoing c.tell.new.out) c.tell.result) (c.as_bytes.ensures.value ∙ c.in-Ok.ensures) c.tell.ensures.told,
    )
