use Rattle.std.proofs.Common.{◌∙◌, ap, sym, if◌then◌else◌}
use Rattle.bgrammar.specs.Reading.{Got, Stop, after, expect}
use Rattle.bread.specs.Marks.{is_mark}
use Rattle.bread.proofs.Moving.{halt_here}
use Rattle.bread.proofs.Takings.{token_took}
use Rattle.bread.proofs.parser.Parser.expect.Goals as goal

pub returns-then-not-is_at-clause-tokens : goal.returns-then-not-is_at-clause-tokens
returns-then-not-is_at-clause-tokens g c =
    halt_here {f = expect (is_mark c.args.mark)} c.requires
    (λ u e n. ap (λ b. if b then Got tt (after u) else Stop u) (ap (is_mark c.args.mark) e ∙ sym c.if-not-is_at.ensures))

pub returns-clause-tokens : goal.returns-clause-tokens
returns-clause-tokens g c = token_took (is_mark c.args.mark) c.in_ok-advance.ensures.ok (sym c.if-not-is_at.ensures)
