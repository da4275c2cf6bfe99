use Rattle.std.specs.Prelude.{ℕ, ◌+◌, ◌*◌}
use Rattle.bread.specs.Tokens.{work, IsSingle}
use Rattle.bread.proofs.StatementSteps.{InHeadings, InBody}
use Rattle.bread.proofs.statement.+statements.Given as goal

abbrev pub decreases-statement : goal.decreases-statement
decreases-statement g l = 8 * l.room + 4

abbrev pub decreases-unheaded : goal.decreases-unheaded
decreases-unheaded g l = 8 * l.room + 3

abbrev pub decreases-keyed : goal.decreases-keyed
decreases-keyed g l = 8 * l.room + 2

abbrev pub decreases-compound : goal.decreases-compound
decreases-compound g l = 8 * l.room + 1

abbrev pub decreases-conditional : goal.decreases-conditional
decreases-conditional g l = 8 * l.room + 1

abbrev pub decreases-repeated : goal.decreases-repeated
decreases-repeated g l = 8 * l.room + 1

abbrev pub decreases-switched : goal.decreases-switched
decreases-switched g l = 8 * l.room + 1

abbrev pub decreases-body : goal.decreases-body
decreases-body g l = 8 * l.room + 5

abbrev pub decreases-otherwise : goal.decreases-otherwise
decreases-otherwise g l = 8 * l.room + 5

abbrev pub invariant-statement-headings : goal.invariant-statement-headings
invariant-statement-headings g l = InHeadings l.fn.parser.draft l.fn.parser.tokens l.parser.tokens l.parser.draft

abbrev pub decreases-statement-headings : goal.decreases-statement-headings
decreases-statement-headings g l = work l.parser.tokens

abbrev pub invariant-body-statements : goal.invariant-body-statements
invariant-body-statements g l = ((off : ℕ) → InBody l.fn.room off l.fn.parser.draft l.fn.parser.tokens l.parser.tokens l.parser.draft) × IsSingle l.parser.tokens

abbrev pub decreases-body-statements : goal.decreases-body-statements
decreases-body-statements g l = work l.parser.tokens
