use Rattle.std.proofs.Common.{◌≡◌, ◌++◌, drop}
use Rattle.std.specs.List.{flat_map}
use Rattle.bmatch.specs.Notices.{functions_in, rule_notices}
use Rattle.bmatch.proofs.noticing.notices_of.Given as goal

abbrev pub invariant-loop-rule : goal.invariant-loop-rule
invariant-loop-rule l = l.found.items ++ flat_map (rule_notices l.tree l.table (functions_in l.tree)) (drop l.rule-index l.table.rules.now) ≡ flat_map (rule_notices l.tree l.table (functions_in l.tree)) l.table.rules.now
