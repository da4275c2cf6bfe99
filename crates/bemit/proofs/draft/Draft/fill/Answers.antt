use Rattle.std.proofs.Common.{rules}
use Rattle.bemit.proofs.draft.Draft.fill.Goals as goal

pub returns-then-not-self : goal.returns-then-not-self
returns-then-not-self c = search rules
