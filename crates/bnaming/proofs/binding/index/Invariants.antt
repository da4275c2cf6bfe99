use Rattle.std.proofs.Common.{◌≤◌, drop}
use Rattle.bnaming.specs.Binding.{reached}
use Rattle.bnaming.proofs.BindingSteps.{Indexes}
use Rattle.bnaming.proofs.binding.index.Given as goal

abbrev pub invariant-loop-place : goal.invariant-loop-place
invariant-loop-place l =
    (l.now_open ≤ l.place)
    × Indexes l.rows l.fn.reach (reached l.fn.reach l.fn.opens (drop l.fn.start l.rows)) (reached l.fn.reach l.now_open (drop l.place l.rows)) l.table
