use Rattle.std.proofs.Common.{◌-◌, ◌≡◌, length}
use Rattle.bnaming.specs.Spots.{IsMark}
use Rattle.bnaming.proofs.ReadingSteps.{Reads}
use Rattle.bnaming.proofs.reading.pieces_of.Given as goal

abbrev pub invariant-loop-scanner : goal.invariant-loop-scanner
invariant-loop-scanner l = record {
  reads : Reads l.fn.edition l.source l.pieces.items l.scanner.at;
  edition : l.scanner.edition ≡ l.fn.edition;
  source : l.scanner.source ≡ l.source;
  mark : IsMark l.source l.mark;
  place : l.mark.at ≡ l.scanner.at;
}

abbrev pub decreases-loop-scanner : goal.decreases-loop-scanner
decreases-loop-scanner l = length l.source - l.scanner.at
