use Rattle.std.proofs.Common.{◌∙◌, ap, sym, None, refl}
use Rattle.bgrammar.specs.StatementReader.{step_at}
use Rattle.bread.specs.Headings.{IsUnheaded}
use Rattle.bread.proofs.Steps.{run_seen}
use Rattle.bread.proofs.HeadingLemmas.{no_heading}
use Rattle.bread.proofs.Takings.{step_none}
use Rattle.bread.proofs.heading.heading.Goals as goal

pub returns-in_default : goal.returns-in_default
returns-in_default g c = (
  record {
    moves = run_seen {P = IsUnheaded} c.requires
        (λ u more s f l. no_heading u (ap (step_at None) (f ∙ sym c.lexeme.ensures)
        ∙ step_none c.lexeme.result c.args.parser.now.tokens.text (λ x. c.in_default.not-Name x) (λ k. c.in_default.not-Keyword k)));
    loaded = c.requires;
    none = λ ls. refl;
    noted = refl;
  },
  refl,
)
