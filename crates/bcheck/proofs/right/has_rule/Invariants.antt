use Rattle.std.proofs.Common.{◌≡◌, false, take}
use Rattle.std.specs.List.{list_any}
use Rattle.bcheck.specs.Findings.{matter_code}
use Rattle.bcheck.specs.RuleWarnings.{is_rule_code}
use Rattle.bcheck.proofs.right.has_rule.Given as goal

abbrev pub invariant-loop-finding : goal.invariant-loop-finding
invariant-loop-finding l = list_any (λ f. is_rule_code (matter_code f.matter)) (take l.finding-index l.findings) ≡ false
