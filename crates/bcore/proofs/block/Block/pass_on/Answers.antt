use Rattle.bcore.proofs.Showing.{passes_rest}
use Rattle.bcore.proofs.block.Block.pass_on.Goals as goal

pub returns : goal.returns
returns g c = record { passes = passes_rest _ _ _ _ _ _ c.in_ok-show_kept.ensures c.if-keep.ensures.keeps c.if-keep.ensures.fits c.show_piece.ensures }
