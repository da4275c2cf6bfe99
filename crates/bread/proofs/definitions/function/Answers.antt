use Rattle.bread.proofs.DefinitionSteps.{filled_kind, kind_err, function_first, function_then, function_took}
use Rattle.bread.proofs.definitions.function.Goals as goal

pub returns-in_err-parameters : goal.returns-in_err-parameters
returns-in_err-parameters g c = kind_err _ _ _ _ c.from_residual.result _ _ c.in_err-parameters.field-0.0 c.from_residual.ensures.1 (λ w. function_first w _ _ c.in_err-parameters.field-0.0 c.in_err-parameters.ensures)

pub returns-in_err-statement : goal.returns-in_err-statement
returns-in_err-statement g c = kind_err _ _ _ _ c.from_residual-in_err-statement.result _ _ c.in_err-statement.field-0.0 c.from_residual-in_err-statement.ensures.1 (λ w. let p = c.in_ok-parameters.ensures in function_then w _ _ p.items p.runs _ c.in_err-statement.field-0.0 (c.in_err-statement.ensures 0))

pub returns : goal.returns
returns g c = let p = c.in_ok-parameters.ensures in let s = c.in_ok-statement.ensures in filled_kind _ _ c.fill_lines.ensures (λ w. function_took w _ _ p.items p.runs _ _ _ _ _ _ c.in_ok-parameters.parameters _ c.place.ensures.place p.leads p.made p.count_is (s.0 0) c.emit.ensures c.emit-2.ensures) s.1
