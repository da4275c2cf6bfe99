use Rattle.std.proofs.Common.{◌∙◌, ap, reverse, sym}
use Rattle.bmach.specs.declared.machine.Active.{Active}
use Rattle.bendless.proofs.Words.{same_words}
use Rattle.bendless.proofs.kept.Kept.is_at.Goals as goal

pub returns-in-None-clause-is_at : goal.returns-in-None-clause-is_at
returns-in-None-clause-is_at g c same = record {
  place = ap (λ (a : Active). a.place) (sym c.top.ensures) ∙ c.if-top-self.false;
  callers = sym c.callers.ensures ∙ c.if-callers-self.false;
  input = c.if-left-self.false;
  operands =
      ap reverse (sym c.as_slice.ensures.value)
      ∙ ap reverse (sym (same_words c.ne.result c.operands.result.now c.as_slice.result.now c.ne.ensures c.if-ne.false))
      ∙ c.operands.ensures;
  words = c.in-None.ensures;
}
