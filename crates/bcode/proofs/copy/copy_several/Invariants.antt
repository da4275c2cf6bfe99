use Rattle.std.proofs.Common.{◌-◌, ◌≤◌}
use Rattle.std.specs.List.{flat_map}
use Rattle.bcode.specs.Copying.{PutsLines}
use Rattle.bcode.proofs.copy.copy_several.Given as goal

abbrev pub invariant-loop-left : goal.invariant-loop-left
invariant-loop-left g l =
    (l.left ≤ l.count)
    × PutsLines (g.F.LineForm.spell l.form) (g.F.LineForm.within l.form) (flat_map (g.F.LineForm.spell l.form)) (l.count - l.left) l.initial.lines l.initial.text.items l.lines l.text.items

abbrev pub decreases-loop-left : goal.decreases-loop-left
decreases-loop-left g l = l.left
