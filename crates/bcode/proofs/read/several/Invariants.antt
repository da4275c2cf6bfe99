use Rattle.std.proofs.Common.{◌-◌, ◌≤◌, []}
use Rattle.bcode.specs.Copying.{PutsLines}
use Rattle.bcode.proofs.read.several.Given as goal

abbrev pub invariant-loop-left : goal.invariant-loop-left
invariant-loop-left g l =
    (l.left ≤ l.count)
    × PutsLines (g.F.LineForm.spell l.form) (g.F.LineForm.within l.form) (λ xs. xs) (l.count - l.left) l.initial.lines [] l.lines l.values.items

abbrev pub decreases-loop-left : goal.decreases-loop-left
decreases-loop-left g l = l.left
