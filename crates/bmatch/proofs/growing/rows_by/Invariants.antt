use Rattle.std.proofs.Common.{◌≡◌, ◌≤◌}
use Rattle.bmatch.specs.Growing.{growth_of, steps}
use Rattle.bmatch.proofs.growing.rows_by.Given as goal

abbrev pub invariant-loop : goal.invariant-loop
invariant-loop l =
    (growth_of l.growing ≡ steps l.lexemes l.nodes l.tags l.counter) × (l.growing.place ≤ l.counter)
