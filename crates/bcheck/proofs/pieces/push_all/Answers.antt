use Rattle.std.proofs.Common.{◌∙◌, ◌++◌, ap, arith}
use Rattle.std.specs.List.{flat_map}
use Rattle.std.proofs.lemmas.List.{take_all}
use Rattle.bcheck.specs.Pieces.{piece_text}
use Rattle.bcheck.proofs.AddedFindings.{piece_more}
use Rattle.bcheck.proofs.pieces.push_all.Goals as goal

pub loop-piece-preserved : goal.loop-piece-preserved
loop-piece-preserved c = piece_more c.args.text.now c.loop-piece.text c.push.new.text c.args.pieces.now c.loop-piece.piece-index _ c.loop-piece-test.true c.loop-piece.invariant c.in_ok-push.ensures

pub returns : goal.returns
returns c = c.loop-piece.invariant ∙ ap (λ ps. c.args.text.now ++ flat_map piece_text ps) (take_all c.loop-piece.piece-index c.args.pieces.now (omega arith))
