use Rattle.bcode.specs.Copying.{PutsFound}
use Rattle.bcode.proofs.stream.values_at.Given as goal

abbrev pub invariant-loop-count : goal.invariant-loop-count
invariant-loop-count g l =
    PutsFound (g.F.LineForm.spell l.form) (g.F.LineForm.within l.form) l.keeps l.count l.text l.rest l.initial.values.items l.values.items
