use Rattle.bfix.proofs.FixSteps.{found_all, found_more}
use Rattle.bfix.proofs.keeping.are_among.Goals as goal

pub loop-other-preserved : goal.loop-other-preserved
loop-other-preserved c =
    found_more c.args.texts.now c.args.others.now c.loop-other.count c.loop-other.other-index c.loop-other.invariant
    c.passed-count.result _ c.loop-other-test.true c.passed-count.ensures

pub returns : goal.returns
returns c =
    found_all c.args.texts.now c.args.others.now c.loop-other.count c.loop-other.other-index c.loop-other.invariant
    c.loop-other-test.false
