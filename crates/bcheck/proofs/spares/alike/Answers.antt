use Rattle.std.proofs.Common.{◌∙◌, sym}
use Rattle.bcheck.proofs.SpareSteps.{counts_more}
use Rattle.bcheck.proofs.spares.alike.Goals as goal

pub loop-index-preserved : goal.loop-index-preserved
loop-index-preserved c =
    let b = c.args.both.now in
    counts_more b.source.now b.new.now b.olds.now b.news.now c.loop-index.index c.loop-index.invariant
    (sym c.is_same_at.ensures ∙ c.if-not-is_same_at.false)
