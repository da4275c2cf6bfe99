use Rattle.std.proofs.Common.{◌≡◌, ◌≤◌, drop, length}
use Rattle.blint.specs.Noticed.{first_notices}
use Rattle.blint.proofs.matched.by_token.Given as goal

abbrev pub invariant-loop-left : goal.invariant-loop-left
invariant-loop-left l = (l.firsts.items ≡ first_notices (drop l.left l.notices) 0 l.count) × (l.left ≤ length l.notices)

abbrev pub decreases-loop-left : goal.decreases-loop-left
decreases-loop-left l = l.left
