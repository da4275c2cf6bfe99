use Rattle.std.proofs.Common.{refl, sym, ◌∙◌}
use Rattle.blang.specs.Trees.{Auto}
use Rattle.bgrammar.specs.StatementReader.{is_semicolon, declared}
use Rattle.bgrammar.proofs.StatementFine.{declared_fine}
use Rattle.bemit.specs.Drafts as drafts
use Rattle.bemit.specs.Effects.{headed}
use Rattle.bemit.specs.Trails.{trailed_declared, trailed_heading}
use Rattle.bread.specs.declared.halt.Halt.TheVariants as halt
use Rattle.bread.proofs.Steps.{compiles_err}
use Rattle.bread.proofs.Takings.{less, both_fall}
use Rattle.bread.proofs.Lists.{list_begins, list_goes, closed_first, closed_comma, closed_breaks, closed_ends}
use Rattle.bread.proofs.heading.auto.Goals as goal

pub names-init : goal.names-init
names-init g c = let e = c.in_ok-automatic.ensures in list_begins (λ before. declared) (λ before. declared_fine) (λ d b. drafts.declared d.word d.size b) trailed_declared (e.0 tt) e.1 e.2

pub names-preserved : goal.names-preserved
names-preserved g c = let e = c.in_ok-automatic-2.ensures in list_goes (λ before. declared) (λ before. declared_fine) (λ d b. drafts.declared d.word d.size b) trailed_declared c.names.invariant c.in_ok-advance.ensures.ok (sym c.is_at.ensures ∙ c.names-test.true) (e.0 tt) e.1 e.2

pub names-smaller : goal.names-smaller
names-smaller g c = both_fall (less c.in_ok-advance.ensures.ok) c.in_ok-automatic-2.ensures.2

pub returns : goal.returns
returns g c = closed_ends (λ before. declared) (λ before. declared_fine) (λ d b. drafts.declared d.word d.size b) trailed_declared is_semicolon Auto headed trailed_heading (λ xs d. refl) (λ xs d t. refl) c.names.invariant _ _ c.expect.result (sym c.is_at.ensures ∙ c.names-test.false) c.expect.ensures.tokens c.expect.ensures.draft

pub returns-in_err-automatic : goal.returns-in_err-automatic
returns-in_err-automatic g c = compiles_err _ _ _ _ _ _ c.from_residual.result _ _ c.in_err-automatic.field-0.0 c.from_residual.ensures.1 (λ i. closed_first (λ before. declared) (λ before. declared_fine) (λ d b. drafts.declared d.word d.size b) trailed_declared is_semicolon Auto headed trailed_heading (λ xs d. refl) (λ xs d t. refl) _ _ c.in_err-automatic.field-0.0 (c.in_err-automatic.ensures tt))

pub returns-in_err-automatic-2 : goal.returns-in_err-automatic-2
returns-in_err-automatic-2 g c = compiles_err _ _ _ _ _ _ c.from_residual-in_err-automatic-2.result _ _ c.in_err-automatic-2.field-0.0 c.from_residual-in_err-automatic-2.ensures.1 (λ i. closed_comma (λ before. declared) (λ before. declared_fine) (λ d b. drafts.declared d.word d.size b) trailed_declared is_semicolon Auto headed trailed_heading (λ xs d. refl) (λ xs d t. refl) c.names.invariant _ _ c.in_err-automatic-2.field-0.0 c.in_ok-advance.ensures.ok (sym c.is_at.ensures ∙ c.names-test.true) (c.in_err-automatic-2.ensures tt))

pub returns-in_err-advance : goal.returns-in_err-advance
returns-in_err-advance g c = compiles_err _ _ _ _ _ _ c.from_residual-in_err-advance.result _ _ halt.Device c.from_residual-in_err-advance.ensures.1 (λ i. closed_breaks (λ before. declared) (λ before. declared_fine) (λ d b. drafts.declared d.word d.size b) trailed_declared is_semicolon Auto headed trailed_heading (λ xs d. refl) (λ xs d t. refl) c.names.invariant _ halt.Device refl c.in_err-advance.ensures.err)
