use Rattle.std.proofs.Common.{◌≡◌, IfOk, List, None, subst}
use Rattle.blang.specs.declared.code.Definition.{Definition}
use Rattle.blang.specs.Layout.{load_fault}
use Rattle.bcheck.specs.Checks.{status_told, told_first, verdict_line}
use Rattle.bcheck.proofs.CheckSteps.{clean_judged, faulty_judged, no_stop}
use Rattle.btools.proofs.Reading.{if_ok}
use Rattle.bcheck.proofs.verdict.verdict_of.Goals as goal

pub returns-in-Ok-clause-judged : goal.returns-in-Ok-clause-judged
returns-in-Ok-clause-judged c =
    let told = subst (λ (ds : List Definition). IfOk c.judge_code.result (λ v. (verdict_line v, status_told v) ≡ told_first None (load_fault ds))) c.deref.ensures.value c.judge_code.ensures.told in
    if_ok c.judge_code.result _ _ (λ v told edition source is. clean_judged edition source c.in-Ok.definitions.items v (rw c.in-Ok.is at is) told) told

pub returns-in-Ok-clause-stop : goal.returns-in-Ok-clause-stop
returns-in-Ok-clause-stop c = if_ok c.judge_code.result _ _ (λ v other edition source is. no_stop edition source v other) c.judge_code.ensures.other

pub returns-in_ok-diagnostic_line-in-Err-clause-judged : goal.returns-in_ok-diagnostic_line-in-Err-clause-judged
returns-in_ok-diagnostic_line-in-Err-clause-judged c =
    λ edition source is. faulty_judged edition source c.in_ok-diagnostic_line-in-Err.field-0 c.in-Err.fault (rw c.in-Err.is at is) c.in_ok-diagnostic_line-in-Err.ensures
