use Rattle.std.proofs.Common.{◌≡◌, ◌++◌, drop}
use Rattle.std.specs.List.{flat_map}
use Rattle.bmatch.specs.Notices.{function_notices}
use Rattle.bmatch.proofs.noticing.rule_notices.Given as goal

abbrev pub invariant-loop-function : goal.invariant-loop-function
invariant-loop-function l = l.found.items ++ flat_map (function_notices l.tree l.table l.rule) (drop l.function-index l.functions) ≡ l.initial.found.items ++ flat_map (function_notices l.tree l.table l.rule) l.functions
