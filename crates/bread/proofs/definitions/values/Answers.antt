use Rattle.std.proofs.Common.{[], refl, sym, ◌∙◌}
use Rattle.bread.specs.declared.halt.Halt.TheVariants as halt
use Rattle.bgrammar.specs.StatementReader.{is_semicolon}
use Rattle.bgrammar.specs.DefinitionReader.{ival}
use Rattle.bgrammar.proofs.DefinitionFine.{ival_fine}
use Rattle.bemit.specs.Effects.{ival_done, values_done}
use Rattle.bemit.specs.Trails.{trailed_value, trailed_values}
use Rattle.bread.proofs.Takings.{less, both_fall}
use Rattle.bread.proofs.Lists.{list_begins, list_goes}
use Rattle.bread.proofs.DefinitionSteps.{none_took, some_first, some_comma, some_breaks, some_last, some_took, counted_one, counted_more, list_err}
use Rattle.bread.proofs.definitions.values.Goals as goal

pub returns-then-is_at : goal.returns-then-is_at
returns-then-is_at g c = none_took ival ival_fine (λ v d. ival_done d v) trailed_value is_semicolon values_done trailed_values (λ xs d. refl) (λ xs d t. refl) 4294967295 _ _ _ c.in_ok-advance.ensures.ok (sym c.is_at.ensures ∙ c.if-is_at.true)

pub returns-in_err-value : goal.returns-in_err-value
returns-in_err-value g c = list_err _ _ _ _ _ _ c.from_residual-in_err-value.result _ _ c.in_err-value.field-0.0 c.from_residual-in_err-value.ensures.1 (some_first ival ival_fine (λ v d. ival_done d v) trailed_value is_semicolon values_done trailed_values (λ xs d. refl) (λ xs d t. refl) 4294967295 _ c.requires (sym c.is_at.ensures ∙ c.if-is_at.false) _ c.in_err-value.field-0.0 (c.in_err-value.ensures []))

pub values-init : goal.values-init
values-init g c = let e = c.in_ok-value.ensures in record { list = list_begins ival ival_fine (λ v d. ival_done d v) trailed_value (e.0 []) e.1 e.2; count_is = counted_one (e.0 []).tree 4294967295 (λ h. cc) }

pub values-preserved : goal.values-preserved
values-preserved g c = let e = c.in_ok-value-2.ensures in record { list = list_goes ival ival_fine (λ v d. ival_done d v) trailed_value c.values.invariant.list c.in_ok-advance-2.ensures.ok (sym c.is_at-in-values.ensures ∙ c.values-test.true) (e.0 c.values.invariant.list.items) e.1 e.2; count_is = counted_more c.values.invariant.list.items (e.0 c.values.invariant.list.items).tree c.values.count c.saturating_add-count.result 4294967295 c.values.invariant.count_is c.saturating_add-count.ensures }

pub values-smaller : goal.values-smaller
values-smaller g c = both_fall (less c.in_ok-advance-2.ensures.ok) c.in_ok-value-2.ensures.2

pub returns-in_err-advance-2 : goal.returns-in_err-advance-2
returns-in_err-advance-2 g c = list_err _ _ _ _ _ _ c.from_residual-in_err-advance-2.result _ _ halt.Device c.from_residual-in_err-advance-2.ensures.1 (some_breaks ival ival_fine (λ v d. ival_done d v) trailed_value is_semicolon values_done trailed_values (λ xs d. refl) (λ xs d t. refl) 4294967295 _ c.requires (sym c.is_at.ensures ∙ c.if-is_at.false) c.values.invariant.list _ halt.Device refl c.in_err-advance-2.ensures.err)

pub returns-in_err-value-2 : goal.returns-in_err-value-2
returns-in_err-value-2 g c = list_err _ _ _ _ _ _ c.from_residual-in_err-value-2.result _ _ c.in_err-value-2.field-0.0 c.from_residual-in_err-value-2.ensures.1 (some_comma ival ival_fine (λ v d. ival_done d v) trailed_value is_semicolon values_done trailed_values (λ xs d. refl) (λ xs d t. refl) 4294967295 _ c.requires (sym c.is_at.ensures ∙ c.if-is_at.false) c.values.invariant.list _ _ c.in_err-value-2.field-0.0 c.in_ok-advance-2.ensures.ok (sym c.is_at-in-values.ensures ∙ c.values-test.true) (c.in_err-value-2.ensures c.values.invariant.list.items))

pub returns-in_err-expect : goal.returns-in_err-expect
returns-in_err-expect g c = list_err _ _ _ _ _ _ c.from_residual-in_err-expect.result _ _ c.in_err-expect.field-0.0 c.from_residual-in_err-expect.ensures.1 (some_last ival ival_fine (λ v d. ival_done d v) trailed_value is_semicolon values_done trailed_values (λ xs d. refl) (λ xs d t. refl) 4294967295 _ c.requires (sym c.is_at.ensures ∙ c.if-is_at.false) c.values.invariant.list _ c.in_err-expect.field-0.0 (sym c.is_at-in-values.ensures ∙ c.values-test.false) c.in_err-expect.ensures.tokens)

pub returns : goal.returns
returns g c = some_took ival ival_fine (λ v d. ival_done d v) trailed_value is_semicolon values_done trailed_values (λ xs d. refl) (λ xs d t. refl) 4294967295 _ c.requires (sym c.is_at.ensures ∙ c.if-is_at.false) c.values.invariant.list _ _ c.values.count (sym c.is_at-in-values.ensures ∙ c.values-test.false) c.in_ok-expect.ensures.tokens c.in_ok-expect.ensures.draft c.values.invariant.count_is
