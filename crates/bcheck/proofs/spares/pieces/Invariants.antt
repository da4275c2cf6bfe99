use Rattle.std.proofs.Common.{◌-◌, ◌≡◌, ◌≤◌, length}
use Rattle.bcheck.proofs.SpareSteps.{Reads}
use Rattle.bcheck.proofs.spares.pieces.Given as goal

abbrev pub invariant-loop-scanner : goal.invariant-loop-scanner
invariant-loop-scanner l = record {
  reads : Reads l.fn.edition l.source l.pieces.items l.scanner.at;
  edition : l.scanner.edition ≡ l.fn.edition;
  source : l.scanner.source ≡ l.source;
  within : l.scanner.at ≤ length l.source;
}

abbrev pub decreases-loop-scanner : goal.decreases-loop-scanner
decreases-loop-scanner l = length l.source - l.scanner.at
