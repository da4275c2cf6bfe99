use Rattle.bgrammar.specs.StatementReader.{name}
use Rattle.bemit.specs.Drafts.{imported}
use Rattle.bemit.specs.Trails.{trailed_name}
use Rattle.bread.specs.Tokens.{work}
use Rattle.bread.proofs.Lists.{InList}
use Rattle.bread.proofs.heading.extrn.Given as goal

abbrev pub invariant-names : goal.invariant-names
invariant-names g l = InList (λ before. name) (λ w b. imported w b) trailed_name l.fn.parser.draft l.fn.parser.tokens l.parser.tokens l.parser.draft

abbrev pub decreases-names : goal.decreases-names
decreases-names g l = work l.parser.tokens
