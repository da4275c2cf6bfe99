use Rattle.std.proofs.Common.{◌∙◌, ap, sym}
use Rattle.bgrammar.specs.StatementReader.{name, name_at}
use Rattle.bread.proofs.Moving.{single_here, not_named, halt_here}
use Rattle.bread.proofs.Takings.{name_none, name_found}
use Rattle.blex.proofs.LexemeSteps.{token_here}
use Rattle.bread.proofs.take.name.Goals as goal

pub returns-in_default-clause-tokens : goal.returns-in_default-clause-tokens
returns-in_default-clause-tokens g c =
    halt_here {f = name} (single_here c.requires (not_named c.lexeme.result c.args.parser.now.tokens.text c.lexeme.ensures (λ x. c.in_default.not-Name x)))
    (λ u e n. ap (λ t. name_at t u) (e ∙ sym c.lexeme.ensures) ∙ name_none c.lexeme.result c.args.parser.now.tokens.text (λ x. c.in_default.not-Name x) u)

pub returns-clause-tokens : goal.returns-clause-tokens
returns-clause-tokens g c = name_found c.in-Name.name c.line-line.result _ c.place.result c.in_ok-take.ensures.ok c.place.ensures.place (token_here c.args.parser.now.tokens.text c.lexeme.ensures c.in-Name.is) c.line-line.ensures
