use Rattle.bcheck.proofs.MentionSteps.{put_more, put_new}
use Rattle.bcheck.proofs.mention.put.Goals as goal

pub returns-in-Ok-clause-new : goal.returns-in-Ok-clause-new
returns-in-Ok-clause-new c = put_new c.in-Ok.is_new c.args.names.now c.args.name c.in-Ok.ensures.there

pub returns-in-Ok-clause-more : goal.returns-in-Ok-clause-more
returns-in-Ok-clause-more c = put_more c.in-Ok.is_new c.args.names.now c.insert.new.self c.args.name c.in-Ok.ensures.there c.in-Ok.ensures.entries c.in-Ok.ensures.known
