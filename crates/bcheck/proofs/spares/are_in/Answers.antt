use Rattle.bcheck.proofs.SpareSteps.{found_all, found_from, found_more}
use Rattle.bcheck.proofs.spares.are_in.Goals as goal

pub loop-index-init : goal.loop-index-init
loop-index-init c =
    let b = c.args.both.now in found_from b.source.now b.new.now b.olds.now b.news.now

pub loop-index-preserved : goal.loop-index-preserved
loop-index-preserved c =
    let b = c.args.both.now in
    found_more b.source.now b.new.now b.olds.now b.news.now c.loop-index.count c.loop-index.index c.loop-index.invariant _
    c.passed-count.ensures

pub returns : goal.returns
returns c =
    let b = c.args.both.now in
    found_all b.source.now b.new.now b.olds.now b.news.now c.loop-index.count c.loop-index.index c.loop-index.invariant
    c.loop-index-test.false
