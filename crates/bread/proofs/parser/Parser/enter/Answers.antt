use Rattle.std.proofs.Common.{ap, rules}
use Rattle.bgrammar.specs.ExpressionReader.{inner}
use Rattle.bread.proofs.Moving.{single_here, halt_here}
use Rattle.bread.proofs.parser.Parser.enter.Goals as goal

pub returns-then-room-eq0-clause-tokens : goal.returns-then-room-eq0-clause-tokens
returns-then-room-eq0-clause-tokens g c =
    halt_here {f = (inner c.args.room).enter} (single_here c.requires.loaded c.requires.no_name) (λ u e n. ap (λ r. (inner r).enter u) c.if-room-eq0.true)

pub returns-clause-tokens : goal.returns-clause-tokens
returns-clause-tokens g c = search rules
