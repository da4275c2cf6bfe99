use Rattle.std.proofs.Common.{◌∙◌, ap, refl, reverse, sym}
use Rattle.bmach.specs.declared.machine.Active.{Active}
use Rattle.bendless.proofs.kept.Kept.of.Goals as goal

pub returns : goal.returns
returns g c = record {
  call = c.top.ensures;
  state = record {
    place = ap (λ (a : Active). a.place) (sym c.top.ensures);
    callers = sym c.callers.ensures;
    input = refl;
    operands = ap reverse c.in_ok-operands.ensures.items ∙ c.operands.ensures;
    words = c.in_ok-words.ensures;
  };
  steps = refl;
}
