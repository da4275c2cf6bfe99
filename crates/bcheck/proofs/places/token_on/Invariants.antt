use Rattle.std.proofs.Common.{◌-◌, ◌≡◌, length}
use Rattle.bcheck.proofs.TokenPlaces.{Seeks}
use Rattle.bcheck.proofs.places.token_on.Given as goal

abbrev pub invariant-loop-scanner : goal.invariant-loop-scanner
invariant-loop-scanner l = record {
  seeks : Seeks l.fn.edition l.source l.line l.scanner.at l.found;
  edition : l.scanner.edition ≡ l.fn.edition;
  source : l.scanner.source ≡ l.source;
}

abbrev pub decreases-loop-scanner : goal.decreases-loop-scanner
decreases-loop-scanner l = length l.source - l.scanner.at
