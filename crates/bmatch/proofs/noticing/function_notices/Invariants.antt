use Rattle.std.proofs.Common.{◌≡◌, ◌-◌, ◌++◌}
use Rattle.std.specs.List.{flat_map, range_with_len}
use Rattle.bmatch.specs.Notices.{root_notices}
use Rattle.bmatch.proofs.noticing.function_notices.Given as goal

abbrev pub invariant-loop-root : goal.invariant-loop-root
invariant-loop-root l = l.found.items ++ flat_map (root_notices l.tree l.table l.rule l.function) (range_with_len l.root (l.root-end - l.root)) ≡ l.initial.found.items ++ flat_map (root_notices l.tree l.table l.rule l.function) (range_with_len l.function.begin (l.function.end - l.function.begin))
