use Rattle.std.proofs.Common.{vec_items}
use Rattle.bcheck.proofs.MentionSteps.{told_more}
use Rattle.bcheck.proofs.undefined.findings_on.Goals as goal

pub loop-mention-preserved : goal.loop-mention-preserved
loop-mention-preserved c =
    told_more c.args.source.text.now c.args.mentions.now c.loop-mention.mention-index c.mention-item.result (vec_items c.loop-mention.found) (vec_items c.push.new.self) c.placed.result c.loop-mention-test.true c.mention-item.is c.in_ok-push.ensures.items c.placed.ensures c.loop-mention.invariant
