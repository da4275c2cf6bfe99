use Rattle.std.proofs.Common.{None}
use Rattle.bgrammar.specs.StatementReader.{name}
use Rattle.bemit.specs.Drafts as drafts
use Rattle.bemit.specs.Trails.{trailed_name}
use Rattle.bread.specs.Tokens.{work}
use Rattle.bread.proofs.DefinitionSteps.{InCounted}
use Rattle.bread.proofs.definitions.parameters.Given as goal

abbrev pub invariant-names : goal.invariant-names
invariant-names g l = InCounted (λ before. name) (λ w d. drafts.declared w None d) trailed_name 65535 l.fn.parser.draft l.fn.parser.tokens l.parser.tokens l.parser.draft l.count

abbrev pub decreases-names : goal.decreases-names
decreases-names g l = work l.parser.tokens
