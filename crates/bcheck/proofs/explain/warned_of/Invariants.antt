use Rattle.std.proofs.Common.{◌≡◌, ℕ, List, map, take}
use Rattle.bcheck.specs.Findings.{found_at}
use Rattle.bcheck.specs.RuleWarnings.{caution_at}
use Rattle.bcheck.proofs.explain.warned_of.Given as goal

abbrev pub invariant-loop-caution : goal.invariant-loop-caution
invariant-loop-caution l =
    (source : List ℕ) → map (found_at source) l.findings.items ≡ map (caution_at source) (take l.caution-index l.cautions)
