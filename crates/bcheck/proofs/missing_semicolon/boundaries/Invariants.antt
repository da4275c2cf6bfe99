use Rattle.std.proofs.Common.{◌-◌, ◌≡◌, length, vec_items}
use Rattle.bcheck.proofs.BoundarySteps.{HasBoundaries}
use Rattle.bcheck.proofs.missing_semicolon.boundaries.Given as goal

abbrev pub invariant-loop-places : goal.invariant-loop-places
invariant-loop-places l = record {
  boundaries : HasBoundaries l.fn.edition l.source l.line (vec_items l.places) l.scanner.at;
  edition : l.scanner.edition ≡ l.fn.edition;
  source : l.scanner.source ≡ l.source;
  last : l.last ≡ l.scanner.at;
}

abbrev pub decreases-loop-places : goal.decreases-loop-places
decreases-loop-places l = length l.source - l.scanner.at
