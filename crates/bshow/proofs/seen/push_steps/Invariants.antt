use Rattle.std.proofs.Common.{◌≡◌, ◌++◌}
use Rattle.std.specs.VecDeque.Iter.{deque_iter_rest}
use Rattle.std.specs.List.{flat_map}
use Rattle.bshow.specs.Rows.{table_code}
use Rattle.bshow.specs.Steps.{seen_cells}
use Rattle.bshow.proofs.seen.push_steps.Given as goal

-- what is there, with the rows that are left
abbrev pub invariant-loop-step : goal.invariant-loop-step
invariant-loop-step l = l.page ++ flat_map (seen_cells (table_code l.tables)) (deque_iter_rest l.step-iterator) ≡ l.fn.page ++ flat_map (seen_cells (table_code l.tables)) l.steps.items
