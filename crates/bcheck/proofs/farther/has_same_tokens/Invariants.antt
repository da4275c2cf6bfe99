use Rattle.std.proofs.Common.{◌-◌, ◌≡◌, ◌≤◌, length}
use Rattle.bcheck.proofs.MendSteps.{Agrees}
use Rattle.bcheck.proofs.farther.has_same_tokens.Given as goal

abbrev pub invariant-loop-scanner : goal.invariant-loop-scanner
invariant-loop-scanner l = record {
  agrees : Agrees l.fn.edition l.one l.other l.scanner.at l.others.at;
  edition : l.scanner.edition ≡ l.fn.edition;
  source : l.scanner.source ≡ l.one;
  other_edition : l.others.edition ≡ l.fn.edition;
  other_source : l.others.source ≡ l.other;
  within : l.scanner.at ≤ length l.one;
}

abbrev pub decreases-loop-scanner : goal.decreases-loop-scanner
decreases-loop-scanner l = length l.one - l.scanner.at
