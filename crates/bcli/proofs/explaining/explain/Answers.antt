use Rattle.std.proofs.Common.{◌∙◌, List, inl, inr, refl, subst, ℕ, ⊎_elim}
use Rattle.blang.specs.Reports.{Reported}
use Rattle.bcli.specs.Explains as explains
use Rattle.bcli.proofs.explaining.explain.Goals as goal

pub returns-in-Ok-clause-explains : goal.returns-in-Ok-clause-explains
returns-in-Ok-clause-explains g c = explains.has_program c.in-Ok.field-0.definitions.items c.in-Ok.field-0.image c.in-Ok.ensures.program ((c.in-Ok.field-0.names.lines.items, c.in-Ok.ensures.lines), (c.in-Ok.field-0.names.frames.items, c.in-Ok.ensures.names)) refl refl

pub returns-in-Ok-fault_text : goal.returns-in-Ok-fault_text
returns-in-Ok-fault_text g c = record {
  explains = explains.tells c.in-Err.fault c.in-Err.ensures.program c.in_default.not-Memory
      (⊎_elim (λ e. inr e.1) (λ e. inl e) c.else-located-ne-FAULT.either)
      (subst (λ (t : List ℕ). Reported t c.args.located (g.D.ByteOut.outgoing c.args.diag.now) (g.D.ByteOut.outgoing c.tell.new.out) c.tell.result)
      (c.as_slice.ensures ∙ c.in-Ok-fault_text.ensures) c.tell.ensures.told);
  diag_lender = c.tell.ensures.same;
}
