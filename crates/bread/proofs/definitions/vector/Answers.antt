use Rattle.std.proofs.Common.{◌+◌, max, ◌∙◌, ap}
use Rattle.bread.proofs.DefinitionSteps.{filled_kind, kind_err, vector_first, vector_then, vector_last, vector_took}
use Rattle.bread.proofs.definitions.vector.Goals as goal

pub returns-in_err-size : goal.returns-in_err-size
returns-in_err-size g c = kind_err _ _ _ _ c.from_residual.result _ _ c.in_err-size.field-0.0 c.from_residual.ensures.1 (λ w. vector_first w _ _ c.in_err-size.field-0.0 c.in_err-size.ensures.tokens)

pub returns-in_err-expect : goal.returns-in_err-expect
returns-in_err-expect g c = kind_err _ _ _ _ c.from_residual-in_err-expect.result _ _ c.in_err-expect.field-0.0 c.from_residual-in_err-expect.ensures.1 (λ w. vector_then w _ _ _ _ c.in_err-expect.field-0.0 c.in_ok-size.ensures.tokens.runs c.in_err-expect.ensures.tokens)

pub returns-in_err-count : goal.returns-in_err-count
returns-in_err-count g c = kind_err _ _ _ _ c.from_residual-in_err-count.result _ _ c.in_err-count.field-0.0 c.from_residual-in_err-count.ensures.1 (λ w. vector_last w _ _ _ _ c.in_ok-size.ensures.tokens c.in_ok-expect.ensures.tokens _ c.in_err-count.field-0.0 c.in_err-count.ensures)

pub returns : goal.returns
returns g c = filled_kind _ _ c.fill_lines.ensures (λ w. vector_took w _ _ _ c.in_ok-size.size c.in_ok-size.ensures.tokens c.in_ok-expect.ensures.tokens _ _ _ _ _ c.in_ok-count.count c.max-words.result c.min.result _ c.value_place.ensures.place (c.in_ok-expect.ensures.draft ∙ c.in_ok-size.ensures.draft) c.in_ok-count.ensures (c.max-words.ensures ∙ ap (λ k. max c.in_ok-count.count (k + 1)) c.constant_of.ensures) c.limit_words.ensures c.min.ensures) c.in_ok-count.ensures.single
