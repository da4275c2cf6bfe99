use Rattle.std.proofs.Common.{sym, ◌∙◌}
use Rattle.blex.proofs.FixedTexts.{none_unless_assignment, none_unless_two}
use Rattle.blex.proofs.operators.can_be_three.Goals as goal

pub returns-then-first-eq61 : goal.returns-then-first-eq61
returns-then-first-eq61 c = λ e. rw c.in-Some.is (none_unless_two c.args.first c.in-Some.second (sym c.begins_two.ensures ∙ e))

pub returns-else-first-eq61 : goal.returns-else-first-eq61
returns-else-first-eq61 c = none_unless_assignment c.args.first c.args.second
