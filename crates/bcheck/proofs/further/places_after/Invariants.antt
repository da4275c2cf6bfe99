use Rattle.std.proofs.Common.{◌-◌, ◌≡◌, length, vec_items}
use Rattle.bcheck.proofs.SectionSteps.{Collects}
use Rattle.bcheck.proofs.further.places_after.Given as goal

abbrev pub invariant-loop-places : goal.invariant-loop-places
invariant-loop-places l = record {
  collects : Collects l.fn.source.edition l.fn.line l.fn.source.text.now l.scanner.at l.head (vec_items l.places);
  edition : l.scanner.edition ≡ l.fn.source.edition;
  source : l.scanner.source ≡ l.fn.source.text.now;
}

abbrev pub decreases-loop-places : goal.decreases-loop-places
decreases-loop-places l = length l.fn.source.text.now - l.scanner.at
