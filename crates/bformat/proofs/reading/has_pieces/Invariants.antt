use Rattle.std.proofs.Common.{◌≡◌, take}
use Rattle.bformat.specs.Readings.{texts}
use Rattle.bformat.proofs.Upcoming.{Compares}
use Rattle.bformat.proofs.reading.has_pieces.Given as goal

abbrev pub invariant-loop-piece : goal.invariant-loop-piece
invariant-loop-piece l = record {
  compares : Compares l.fn.edition l.text (texts (take l.piece-index l.pieces)) l.scanner.at;
  edition : l.scanner.edition ≡ l.fn.edition;
  source : l.scanner.source ≡ l.text;
}
