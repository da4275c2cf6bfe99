use Rattle.std.proofs.Common.{◌≡◌, ◌∙◌, ap, sym, subst}
use Rattle.bgrammar.specs.Reading.{line_ahead}
use Rattle.bemit.specs.Trails.{noted_at}
use Rattle.bread.specs.Tokens.{with_noted, AdvancesTo}
use Rattle.bread.proofs.TokenSteps.{advanced_noting}
use Rattle.bread.proofs.tokens.Tokens.take.Goals as goal

pub returns-clause-ok : goal.returns-clause-ok
returns-clause-ok g c =
    let h = c.in_ok-advance.ensures.ok in
    let old = c.args.self.now in
    let n = noted_at c.args.place (line_ahead old.ahead) old.noted in
    let is : with_noted n c.advance.new.self ≡ c.note.new.self =
    ap (λ l. with_noted (noted_at c.args.place l old.noted) c.advance.new.self) (sym c.line-line.ensures)
    ∙ ap (λ m. with_noted (noted_at c.args.place c.line-line.result m) c.advance.new.self) (sym h.noted_is) ∙ sym c.note.ensures in
    subst (λ t. AdvancesTo n old t) is (advanced_noting n h)
