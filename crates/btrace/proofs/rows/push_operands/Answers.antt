use Rattle.std.specs.Borrow.{Bor}
use Rattle.std.proofs.Common.{ℕ, List, ◌≡◌, ◌∙◌, ◌++◌, ◌-◌, ap, append-nil, codes, drop, length, nat_lt, sym, take, [], if◌then◌else◌}
use Rattle.btrace.proofs.RowParts.{dots_else, dots_then, one_operand, operands_end}
use Rattle.btrace.proofs.rows.push_operands.Goals.{then-first-gt0, else-first-gt0}
use Rattle.btrace.proofs.rows.push_operands.Goals as goal

pub loop-word-init : goal.loop-word-init
loop-word-init c =
    let dots : c.if-first-gt0.push.now ≡ (if nat_lt 0 c.saturating_sub-first.result then codes " .." else []) =
    elim c.if-first-gt0.branch [ then-first-gt0 w ↦ dots_then c.saturating_sub-first.result _ w.if-first-gt0.true (ap (λ (b : Bor (List ℕ)). b.now) w.push-is) | else-first-gt0 w ↦ dots_else c.saturating_sub-first.result _ w.if-first-gt0.false (ap (λ (b : Bor (List ℕ)). b.now) w.push-is) ] in
    c.in_ok-push.ensures ∙ ap (λ x. c.args.text.now ++ x) (dots ∙ ap (λ n. if nat_lt 0 n then codes " .." else []) c.saturating_sub-first.ensures) ∙ sym (append-nil _)

pub loop-word-preserved : goal.loop-word-preserved
loop-word-preserved c =
    let first = c.saturating_sub-first.result in
    one_operand _ c.loop-word.text c.push-in-loop-word.new.self c.push_signed.new.text (take (length c.args.operands.now - first) (drop first c.args.operands.now)) c.loop-word.word-index
    c.loop-word-test.true c.loop-word.invariant c.in_ok-push-2.ensures c.in_ok-push_signed.ensures

pub returns : goal.returns
returns c = operands_end c.args.operands.now c.args.text.now c.loop-word.text c.saturating_sub-first.result c.loop-word.word-index c.saturating_sub-first.ensures c.loop-word-test.false c.loop-word.invariant
