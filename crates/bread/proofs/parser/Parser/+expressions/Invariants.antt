use Rattle.std.proofs.Common.{◌+◌, ◌*◌}
use Rattle.bread.specs.Tokens.{work}
use Rattle.bread.proofs.ExpressionSteps.{InPostfix, InChain, InArguments}
use Rattle.bread.proofs.parser.Parser.+expressions.Given as goal

abbrev pub decreases-primary : goal.decreases-primary
decreases-primary g l = 16 * l.room + 1

abbrev pub decreases-suffixed : goal.decreases-suffixed
decreases-suffixed g l = 16 * l.room + 1

abbrev pub decreases-conditional : goal.decreases-conditional
decreases-conditional g l = 16 * l.room + 1

abbrev pub decreases-postfix : goal.decreases-postfix
decreases-postfix g l = 16 * l.room + 2

abbrev pub decreases-operand : goal.decreases-operand
decreases-operand g l = 16 * l.room + 3

abbrev pub decreases-chain : goal.decreases-chain
decreases-chain g l = 16 * l.room + 4 + l.rank

abbrev pub decreases-rvalue : goal.decreases-rvalue
decreases-rvalue g l = 16 * l.room + 13

abbrev pub decreases-evaluate : goal.decreases-evaluate
decreases-evaluate g l = 16 * l.room + 14

abbrev pub decreases-arguments : goal.decreases-arguments
decreases-arguments g l = 16 * l.room + 15

abbrev pub invariant-postfix-suffixes : goal.invariant-postfix-suffixes
invariant-postfix-suffixes g l = InPostfix l.room l.fn.self.tokens l.fn.self.draft l.self.tokens l.self.draft l.form

abbrev pub decreases-postfix-suffixes : goal.decreases-postfix-suffixes
decreases-postfix-suffixes g l = work l.self.tokens

abbrev pub invariant-chain-operators : goal.invariant-chain-operators
invariant-chain-operators g l = InChain l.room l.rank l.fn.self.tokens l.fn.self.draft l.self.tokens l.self.draft l.form

abbrev pub decreases-chain-operators : goal.decreases-chain-operators
decreases-chain-operators g l = work l.self.tokens

abbrev pub invariant-arguments-more : goal.invariant-arguments-more
invariant-arguments-more g l = InArguments l.room l.fn.self.tokens l.fn.self.draft l.self.tokens l.self.draft l.count

abbrev pub decreases-arguments-more : goal.decreases-arguments-more
decreases-arguments-more g l = work l.self.tokens
