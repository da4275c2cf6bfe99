use Rattle.std.proofs.Common.{◌≡◌, take}
use Rattle.std.specs.List.{filter_map}
use Rattle.bnaming.specs.Pieces.{comment_in}
use Rattle.bnaming.proofs.reading.comments_of.Given as goal

abbrev pub invariant-loop-piece : goal.invariant-loop-piece
invariant-loop-piece l = l.comments.items ≡ filter_map comment_in (take l.piece-index l.pieces)
