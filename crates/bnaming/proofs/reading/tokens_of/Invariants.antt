use Rattle.std.proofs.Common.{◌≡◌, take}
use Rattle.std.specs.List.{filter_map}
use Rattle.bnaming.specs.Pieces.{token_in}
use Rattle.bnaming.proofs.reading.tokens_of.Given as goal

abbrev pub invariant-loop-piece : goal.invariant-loop-piece
invariant-loop-piece l = l.tokens.items ≡ filter_map token_in (take l.piece-index l.pieces)
