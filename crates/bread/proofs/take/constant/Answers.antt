use Rattle.std.proofs.Common.{◌∙◌, ap, sym}
use Rattle.bgrammar.specs.StatementReader.{constant, constant_at}
use Rattle.bread.proofs.Moving.{halt_here}
use Rattle.bread.proofs.Takings.{constant_found, constant_none}
use Rattle.bread.proofs.take.constant.Goals as goal
use Rattle.bread.proofs.take.constant.Goals.{in-Number, in-Number-2}

pub returns-clause-tokens : goal.returns-clause-tokens
returns-clause-tokens g c = elim c.match-lexeme.branch [
  | in-Number w ↦ rw w.value-is (constant_found c.lexeme.result w.in-Number.value c.in_ok-advance.ensures.ok c.lexeme.ensures w.in-Number.is)
  | in-Number-2 w ↦ rw w.value-is (constant_found c.lexeme.result w.in-Number.value c.in_ok-advance.ensures.ok c.lexeme.ensures w.in-Number.is)
]

pub returns-in_default-clause-tokens : goal.returns-in_default-clause-tokens
returns-in_default-clause-tokens g c =
    halt_here {f = constant} c.requires
    (λ u e n. ap (λ t. constant_at t u) (e ∙ sym c.lexeme.ensures)
    ∙ constant_none c.lexeme.result c.args.parser.now.tokens.text (λ x. c.in_default.not-Number x) (λ x. c.in_default.not-Character x) u)
