use Rattle.std.proofs.Common.{◌+◌, ◌*◌}
use Rattle.brulefile.proofs.drawing.Sheet.+drawing.Given as goal

abbrev pub decreases-row : goal.decreases-row
decreases-row l = 4 * l.fuel

abbrev pub decreases-branch : goal.decreases-branch
decreases-branch l = 4 * l.fuel + 3

abbrev pub decreases-spelled : goal.decreases-spelled
decreases-spelled l = 4 * l.fuel + 2

abbrev pub decreases-in_sides : goal.decreases-in_sides
decreases-in_sides l = 4 * l.fuel + 1

abbrev pub decreases-tree : goal.decreases-tree
decreases-tree l = 4 * l.fuel + 1
