use Rattle.std.proofs.Common.{◌-◌, ◌≡◌, ◌≤◌, length}
use Rattle.bformat.specs.Readings.{texts}
use Rattle.bformat.proofs.Upcoming.{Reads}
use Rattle.bformat.proofs.reading.read.Given as goal

abbrev pub invariant-loop-scanner : goal.invariant-loop-scanner
invariant-loop-scanner l = record {
  reads : Reads l.fn.edition l.source (texts l.pieces.items) l.scanner.at;
  edition : l.scanner.edition ≡ l.fn.edition;
  source : l.scanner.source ≡ l.source;
  place : l.at ≡ l.scanner.at;
  within : l.scanner.at ≤ length l.source;
}

abbrev pub decreases-loop-scanner : goal.decreases-loop-scanner
decreases-loop-scanner l = length l.source - l.scanner.at
