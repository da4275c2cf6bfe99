use Rattle.std.proofs.Common.{◌∙◌, ap, sym, None}
use Rattle.bgrammar.specs.Reading.{Got}
use Rattle.bgrammar.specs.StatementReader.{size, size_at}
use Rattle.bread.proofs.Moving.{run_here}
use Rattle.bread.proofs.Takings.{size_none, size_found}
use Rattle.blex.proofs.LexemeSteps.{token_here}
use Rattle.bread.proofs.take.size.Goals as goal

pub returns-in_default-clause-tokens : goal.returns-in_default-clause-tokens
returns-in_default-clause-tokens g c = record {
  runs = run_here {f = size} {g = λ v. Got None v} c.requires.0
      (λ u e n. ap (λ t. size_at t u) (e ∙ sym c.lexeme.ensures) ∙ size_none c.lexeme.result c.args.parser.now.tokens.text (λ x. c.in_default.not-Number x) u);
  single = c.requires;
  leads = λ u ls q. q;
}

pub returns-clause-tokens : goal.returns-clause-tokens
returns-clause-tokens g c = size_found c.in-Number.size c.in_ok-advance.ensures.ok (token_here c.args.parser.now.tokens.text c.lexeme.ensures c.in-Number.is)
