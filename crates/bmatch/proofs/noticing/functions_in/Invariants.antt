use Rattle.std.proofs.Common.{◌≡◌, ◌-◌, ◌++◌}
use Rattle.std.specs.List.{flat_map, range_with_len}
use Rattle.bmatch.specs.Notices.{functions_at, functions_in}
use Rattle.bmatch.proofs.noticing.functions_in.Given as goal

abbrev pub invariant-loop-index : goal.invariant-loop-index
invariant-loop-index l = l.spans.items ++ flat_map (functions_at l.tree) (range_with_len l.index (l.index-end - l.index)) ≡ functions_in l.tree
