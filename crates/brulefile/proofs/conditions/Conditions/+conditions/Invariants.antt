use Rattle.std.proofs.Common.{◌+◌, ◌*◌}
use Rattle.brulefile.proofs.conditions.Conditions.+conditions.Given as goal

abbrev pub decreases-read : goal.decreases-read
decreases-read l = 4 * l.fuel

abbrev pub decreases-negated : goal.decreases-negated
decreases-negated l = 4 * l.fuel + 1

abbrev pub decreases-sought : goal.decreases-sought
decreases-sought l = 4 * l.fuel + 3

abbrev pub decreases-all_of : goal.decreases-all_of
decreases-all_of l = 4 * l.fuel + 2

abbrev pub decreases-one_of : goal.decreases-one_of
decreases-one_of l = 4 * l.fuel + 1
