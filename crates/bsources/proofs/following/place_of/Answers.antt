use Rattle.std.proofs.Common.{◌+◌, ◌-◌, ◌/◌, arith}
use Rattle.bsources.proofs.LineLemmas.{low_moves}
use Rattle.bsources.proofs.following.place_of.Goals as goal

pub loop-low-preserved : goal.loop-low-preserved
loop-low-preserved c =
    let middle = c.loop-low.low + (c.loop-low.high - c.loop-low.low) / 2 in
    (omega arith, c.loop-low.invariant.1, low_moves c.args.files.now c.args.line middle _ (omega arith) c.if-line-files.false, c.loop-low.invariant.3)
