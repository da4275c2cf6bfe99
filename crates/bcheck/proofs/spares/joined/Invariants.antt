use Rattle.std.proofs.Common.{◌≡◌, take}
use Rattle.bcheck.specs.Spares.{joined}
use Rattle.bcheck.proofs.spares.joined.Given as goal

abbrev pub invariant-loop-piece : goal.invariant-loop-piece
invariant-loop-piece l = l.text ≡ joined l.fn.source (take l.piece-index l.pieces)
