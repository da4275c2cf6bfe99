use Rattle.std.proofs.Common.{refl, sym, ◌∙◌}
use Rattle.blang.specs.Trees.{Extrn}
use Rattle.bgrammar.specs.StatementReader.{is_semicolon, name}
use Rattle.bgrammar.proofs.StatementFine.{name_fine}
use Rattle.bemit.specs.Drafts.{imported}
use Rattle.bemit.specs.Effects.{headed}
use Rattle.bemit.specs.Trails.{trailed_name, trailed_heading}
use Rattle.bread.specs.declared.halt.Halt.TheVariants as halt
use Rattle.bread.proofs.Steps.{compiles_err}
use Rattle.bread.proofs.Takings.{less, both_fall}
use Rattle.bread.proofs.Lists.{list_begins, list_goes, closed_first, closed_comma, closed_breaks, closed_ends}
use Rattle.bread.proofs.heading.extrn.Goals as goal

pub names-init : goal.names-init
names-init g c = let e = c.in_ok-external.ensures in list_begins (λ before. name) (λ before. name_fine) (λ w b. imported w b) trailed_name (e.0 tt) e.1 e.2

pub names-preserved : goal.names-preserved
names-preserved g c = let e = c.in_ok-external-2.ensures in list_goes (λ before. name) (λ before. name_fine) (λ w b. imported w b) trailed_name c.names.invariant c.in_ok-advance.ensures.ok (sym c.is_at.ensures ∙ c.names-test.true) (e.0 tt) e.1 e.2

pub names-smaller : goal.names-smaller
names-smaller g c = both_fall (less c.in_ok-advance.ensures.ok) c.in_ok-external-2.ensures.2

pub returns : goal.returns
returns g c = closed_ends (λ before. name) (λ before. name_fine) (λ w b. imported w b) trailed_name is_semicolon Extrn headed trailed_heading (λ xs d. refl) (λ xs d t. refl) c.names.invariant _ _ c.expect.result (sym c.is_at.ensures ∙ c.names-test.false) c.expect.ensures.tokens c.expect.ensures.draft

pub returns-in_err-external : goal.returns-in_err-external
returns-in_err-external g c = compiles_err _ _ _ _ _ _ c.from_residual.result _ _ c.in_err-external.field-0.0 c.from_residual.ensures.1 (λ i. closed_first (λ before. name) (λ before. name_fine) (λ w b. imported w b) trailed_name is_semicolon Extrn headed trailed_heading (λ xs d. refl) (λ xs d t. refl) _ _ c.in_err-external.field-0.0 (c.in_err-external.ensures tt))

pub returns-in_err-external-2 : goal.returns-in_err-external-2
returns-in_err-external-2 g c = compiles_err _ _ _ _ _ _ c.from_residual-in_err-external-2.result _ _ c.in_err-external-2.field-0.0 c.from_residual-in_err-external-2.ensures.1 (λ i. closed_comma (λ before. name) (λ before. name_fine) (λ w b. imported w b) trailed_name is_semicolon Extrn headed trailed_heading (λ xs d. refl) (λ xs d t. refl) c.names.invariant _ _ c.in_err-external-2.field-0.0 c.in_ok-advance.ensures.ok (sym c.is_at.ensures ∙ c.names-test.true) (c.in_err-external-2.ensures tt))

pub returns-in_err-advance : goal.returns-in_err-advance
returns-in_err-advance g c = compiles_err _ _ _ _ _ _ c.from_residual-in_err-advance.result _ _ halt.Device c.from_residual-in_err-advance.ensures.1 (λ i. closed_breaks (λ before. name) (λ before. name_fine) (λ w b. imported w b) trailed_name is_semicolon Extrn headed trailed_heading (λ xs d. refl) (λ xs d t. refl) c.names.invariant _ halt.Device refl c.in_err-advance.ensures.err)
