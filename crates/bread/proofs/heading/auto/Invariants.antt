use Rattle.bgrammar.specs.StatementReader.{declared}
use Rattle.bemit.specs.Drafts as drafts
use Rattle.bemit.specs.Trails.{trailed_declared}
use Rattle.bread.specs.Tokens.{work}
use Rattle.bread.proofs.Lists.{InList}
use Rattle.bread.proofs.heading.auto.Given as goal

abbrev pub invariant-names : goal.invariant-names
invariant-names g l = InList (λ before. declared) (λ d b. drafts.declared d.word d.size b) trailed_declared l.fn.parser.draft l.fn.parser.tokens l.parser.tokens l.parser.draft

abbrev pub decreases-names : goal.decreases-names
decreases-names g l = work l.parser.tokens
