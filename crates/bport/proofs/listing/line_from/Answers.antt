use Rattle.std.proofs.Common.{◌∙◌}
use Rattle.bport.proofs.LineSteps.{line_further}
use Rattle.bport.proofs.listing.line_from.Goals as goal

pub returns-then-at-start : goal.returns-then-at-start
returns-then-at-start c =
    c.line_on.ensures
    ∙ line_further c.args.source.now c.args.line c.args.at c.args.start c.requires c.if-at-start.true
