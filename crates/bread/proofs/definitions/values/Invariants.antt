use Rattle.bgrammar.specs.DefinitionReader.{ival}
use Rattle.bemit.specs.Effects.{ival_done}
use Rattle.bemit.specs.Trails.{trailed_value}
use Rattle.bread.specs.Tokens.{work}
use Rattle.bread.proofs.DefinitionSteps.{InCounted}
use Rattle.bread.proofs.definitions.values.Given as goal

abbrev pub invariant-values : goal.invariant-values
invariant-values g l = InCounted ival (λ v d. ival_done d v) trailed_value 4294967295 l.fn.parser.draft l.fn.parser.tokens l.parser.tokens l.parser.draft l.count

abbrev pub decreases-values : goal.decreases-values
decreases-values g l = work l.parser.tokens
