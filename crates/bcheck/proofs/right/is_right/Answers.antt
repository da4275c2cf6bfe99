use Rattle.std.proofs.Common.{◌≡◌, ◌∙◌, ℕ, List, [], Bool, true, false, not, ap, arith, refl, sym, vec_items}
use Rattle.std.specs.List.{list_any}
use Rattle.bgrammar.proofs.GoesLaws.{each_source_comes}
use Rattle.bsources.specs.Files.{files_shown}
use Rattle.bcheck.specs.Checks.{status_told}
use Rattle.bcheck.specs.Findings.{matter_code}
use Rattle.bcheck.specs.RuleWarnings.{is_rule_code}
use Rattle.bcheck.proofs.RightSteps.{found_wrong}
use Rattle.bcheck.proofs.right.is_right.Goals as goal

is_so : (b : Bool) → not b ≡ false → b ≡ true
is_so true e = refl
is_so false e = cc

pub returns-clause-done : goal.returns-clause-done
returns-clause-done c = λ is r g.
    let done : c.status.result ≡ 0 = omega (arith, c.if-status-ne-DONE.false) in
    sym (ap (λ (p : List ℕ × ℕ). p.1) (c.in_ok-judgement.ensures.judged r g)) ∙ sym c.status.ensures ∙ done

pub returns-then-status-ne-DONE-clause-wrong : goal.returns-then-status-ne-DONE-clause-wrong
returns-then-status-ne-DONE-clause-wrong c = λ same right.
    let it = each_source_comes [] c.args.edition 1 c.args.source.now in
    let done = ap (λ (p : List ℕ × ℕ). p.1) (c.in_ok-judgement.ensures.judged it.0 it.1) ∙ right.done it.0 it.1 in
    let told : status_told c.in_ok-judgement.judgement.verdict ≡ 0 = done in
    omega (arith, c.status.ensures, told, c.if-status-ne-DONE.true)

pub returns-clause-wrong : goal.returns-clause-wrong
returns-clause-wrong c = λ no right.
    let status : c.status.result ≡ 0 = omega (arith, c.if-status-ne-DONE.false) in
    let some = sym c.has_rule.ensures ∙ is_so c.has_rule.result no in
    found_wrong c.args.edition (files_shown c.args.files.now) c.args.source.now (vec_items c.in_ok-findings.findings)
    (c.in_ok-findings.ensures.warned (sym c.status.ensures ∙ status))
    (sym (ap (list_any (λ f. is_rule_code (matter_code f.matter))) c.as_slice.ensures.value) ∙ some) right
