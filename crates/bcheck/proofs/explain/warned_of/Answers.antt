use Rattle.std.proofs.Common.{◌∙◌, ap, map}
use Rattle.std.proofs.lemmas.List.{take_all}
use Rattle.bcheck.specs.RuleWarnings.{caution_at}
use Rattle.bcheck.proofs.Reasons.{caution_more}
use Rattle.bcheck.proofs.explain.warned_of.Goals as goal

pub loop-caution-preserved : goal.loop-caution-preserved
loop-caution-preserved c source =
    caution_more source _ c.loop-caution.caution-index _ _ _ _ _ c.loop-caution-test.true c.caution-item.is c.warning.ensures.place c.warning.ensures.matter c.in_ok-push.ensures.items
    (c.loop-caution.invariant source)

pub returns : goal.returns
returns c source =
    c.loop-caution.invariant source ∙ ap (map (caution_at source)) (take_all c.loop-caution.caution-index c.args.cautions.now c.loop-caution-test.false)
