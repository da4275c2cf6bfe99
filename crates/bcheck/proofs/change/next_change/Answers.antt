use Rattle.std.proofs.Common.{◌≡◌, ◌∙◌, ℕ, List, [], Option, None, Some, IfSome, Bool, true, false, not, ap, arith, refl, sym, vec_items}
use Rattle.std.specs.List.{list_any}
use Rattle.std.proofs.lemmas.List.Folds.{list_any_at}
use Rattle.bgrammar.proofs.GoesLaws.{each_source_comes}
use Rattle.bsources.specs.Files.{files_shown}
use Rattle.bcheck.specs.Checks.{status_told}
use Rattle.bcheck.specs.Findings.{matter_code}
use Rattle.bcheck.specs.RuleWarnings.{is_rule_code}
use Rattle.bcheck.proofs.RightSteps.{found_wrong}
use Rattle.bcheck.proofs.change.next_change.Goals as goal
use Rattle.bcheck.proofs.change.next_change.Goals.{then-is_clean, else-is_clean}

is_so : (b : Bool) → not b ≡ false → b ≡ true
is_so true e = refl
is_so false e = cc

if_any : {A P : Type 0} (x : Option A) → P → IfSome x (λ a. P)
if_any None p = tt
if_any (Some a) p = p

pub returns-then-is_some-clause-wrong : goal.returns-then-is_some-clause-wrong
returns-then-is_some-clause-wrong c =
    if_any c.in_ok-change.change
    (λ right.
    let it = each_source_comes [] c.args.edition 1 c.args.source.now in
    let done = ap (λ (p : List ℕ × ℕ). p.1) (c.in_ok-judgement.ensures.judged it.0 it.1) ∙ right.done it.0 it.1 in
    let told : status_told c.in_ok-judgement.judgement.verdict ≡ 0 = done in
    let status : c.status-is_clean.result ≡ 0 = c.status-is_clean.ensures ∙ told in
    elim c.if-is_clean.branch [
      | then-is_clean w ↦ found_wrong c.args.edition (files_shown c.args.files.now) c.args.source.now
          (vec_items c.in_ok-findings.findings) (c.in_ok-findings.ensures.warned told)
          (sym (ap (list_any (λ f. is_rule_code (matter_code f.matter))) c.as_slice-finding-items.ensures.value)
          ∙ list_any_at (λ f. is_rule_code (matter_code f.matter)) c.as_slice-finding-items.result.now
          c.loop-finding.finding-index c.finding-item.result c.loop-finding-test.true
          (ap (λ f. is_rule_code (matter_code f.matter)) (sym c.finding-item.is)
          ∙ (sym w.is_of_rules.ensures ∙ is_so w.is_of_rules.result (sym w.value-is ∙ c.if-not-is_of_rules.false))))
          right
      | else-is_clean w ↦ omega (arith, status, w.if-is_clean.false)
    ])
