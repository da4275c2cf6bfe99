use Rattle.std.proofs.Common.{refl, sym, ◌∙◌, None}
use Rattle.bread.specs.declared.halt.Halt.TheVariants as halt
use Rattle.bgrammar.specs.ExpressionReader.{is_close_paren}
use Rattle.bgrammar.specs.StatementReader.{name}
use Rattle.bgrammar.proofs.StatementFine.{name_fine}
use Rattle.bemit.specs.Drafts as drafts
use Rattle.bemit.specs.Effects.{parameters_done}
use Rattle.bemit.specs.Trails.{trailed_name, trailed_parameters}
use Rattle.bread.proofs.Takings.{less, both_fall}
use Rattle.bread.proofs.Lists.{list_begins, list_goes}
use Rattle.bread.proofs.DefinitionSteps.{none_took, some_first, some_comma, some_breaks, some_last, some_took, counted_one, counted_more, list_err}
use Rattle.bread.proofs.definitions.parameters.Goals as goal

pub returns-then-is_at : goal.returns-then-is_at
returns-then-is_at g c = none_took (λ before. name) (λ before. name_fine) (λ w d. drafts.declared w None d) trailed_name is_close_paren parameters_done trailed_parameters (λ xs d. refl) (λ xs d t. refl) 65535 _ _ _ c.in_ok-advance.ensures.ok (sym c.is_at.ensures ∙ c.if-is_at.true)

pub returns-in_err-parameter : goal.returns-in_err-parameter
returns-in_err-parameter g c = list_err _ _ _ _ _ _ c.from_residual-in_err-parameter.result _ _ c.in_err-parameter.field-0.0 c.from_residual-in_err-parameter.ensures.1 (some_first (λ before. name) (λ before. name_fine) (λ w d. drafts.declared w None d) trailed_name is_close_paren parameters_done trailed_parameters (λ xs d. refl) (λ xs d t. refl) 65535 _ c.requires (sym c.is_at.ensures ∙ c.if-is_at.false) _ c.in_err-parameter.field-0.0 (c.in_err-parameter.ensures tt))

pub names-init : goal.names-init
names-init g c = let e = c.in_ok-parameter.ensures in record { list = list_begins (λ before. name) (λ before. name_fine) (λ w d. drafts.declared w None d) trailed_name (e.0 tt) e.1 e.2; count_is = counted_one (e.0 tt).tree 65535 (λ h. cc) }

pub names-preserved : goal.names-preserved
names-preserved g c = let e = c.in_ok-parameter-2.ensures in record { list = list_goes (λ before. name) (λ before. name_fine) (λ w d. drafts.declared w None d) trailed_name c.names.invariant.list c.in_ok-advance-2.ensures.ok (sym c.is_at-in-names.ensures ∙ c.names-test.true) (e.0 tt) e.1 e.2; count_is = counted_more c.names.invariant.list.items (e.0 tt).tree c.names.count c.saturating_add-count.result 65535 c.names.invariant.count_is c.saturating_add-count.ensures }

pub names-smaller : goal.names-smaller
names-smaller g c = both_fall (less c.in_ok-advance-2.ensures.ok) c.in_ok-parameter-2.ensures.2

pub returns-in_err-advance-2 : goal.returns-in_err-advance-2
returns-in_err-advance-2 g c = list_err _ _ _ _ _ _ c.from_residual-in_err-advance-2.result _ _ halt.Device c.from_residual-in_err-advance-2.ensures.1 (some_breaks (λ before. name) (λ before. name_fine) (λ w d. drafts.declared w None d) trailed_name is_close_paren parameters_done trailed_parameters (λ xs d. refl) (λ xs d t. refl) 65535 _ c.requires (sym c.is_at.ensures ∙ c.if-is_at.false) c.names.invariant.list _ halt.Device refl c.in_err-advance-2.ensures.err)

pub returns-in_err-parameter-2 : goal.returns-in_err-parameter-2
returns-in_err-parameter-2 g c = list_err _ _ _ _ _ _ c.from_residual-in_err-parameter-2.result _ _ c.in_err-parameter-2.field-0.0 c.from_residual-in_err-parameter-2.ensures.1 (some_comma (λ before. name) (λ before. name_fine) (λ w d. drafts.declared w None d) trailed_name is_close_paren parameters_done trailed_parameters (λ xs d. refl) (λ xs d t. refl) 65535 _ c.requires (sym c.is_at.ensures ∙ c.if-is_at.false) c.names.invariant.list _ _ c.in_err-parameter-2.field-0.0 c.in_ok-advance-2.ensures.ok (sym c.is_at-in-names.ensures ∙ c.names-test.true) (c.in_err-parameter-2.ensures tt))

pub returns-in_err-expect : goal.returns-in_err-expect
returns-in_err-expect g c = list_err _ _ _ _ _ _ c.from_residual-in_err-expect.result _ _ c.in_err-expect.field-0.0 c.from_residual-in_err-expect.ensures.1 (some_last (λ before. name) (λ before. name_fine) (λ w d. drafts.declared w None d) trailed_name is_close_paren parameters_done trailed_parameters (λ xs d. refl) (λ xs d t. refl) 65535 _ c.requires (sym c.is_at.ensures ∙ c.if-is_at.false) c.names.invariant.list _ c.in_err-expect.field-0.0 (sym c.is_at-in-names.ensures ∙ c.names-test.false) c.in_err-expect.ensures.tokens)

pub returns : goal.returns
returns g c = some_took (λ before. name) (λ before. name_fine) (λ w d. drafts.declared w None d) trailed_name is_close_paren parameters_done trailed_parameters (λ xs d. refl) (λ xs d t. refl) 65535 _ c.requires (sym c.is_at.ensures ∙ c.if-is_at.false) c.names.invariant.list _ _ c.names.count (sym c.is_at-in-names.ensures ∙ c.names-test.false) c.in_ok-expect.ensures.tokens c.in_ok-expect.ensures.draft c.names.invariant.count_is
