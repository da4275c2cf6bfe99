use Rattle.std.proofs.Common.{◌≡◌, ◌∙◌, ℕ, ap, arith, length, nat_lt, take}
use Rattle.std.specs.Prelude.{unwrap_or}
use Rattle.std.specs.List.{insert, position}
use Rattle.bcount.specs.declared.marks.MarkedLine.{MarkedLine}
use Rattle.bcount.specs.declared.marks.TheConstants.{MARKED}
use Rattle.bcount.proofs.Costs.{found_or_len, inserted_at}
use Rattle.bcount.proofs.marks.place.Goals as goal

pub returns : goal.returns
returns c =
    let marks = c.args.marks.now in
    let mark = c.args.mark in
    let p : MarkedLine → _ = λ m. nat_lt m.steps mark.steps in
    let long : c.len.result ≡ length marks.items = omega (arith, c.len.ensures, marks.ok.0) in
    let at = c.unwrap_or.ensures ∙ (λ i. unwrap_or (c.cheaper-cheaper.ensures.value i) (long i)) ∙ (λ i. unwrap_or (position p (c.deref.ensures.value i)) (length marks.items)) ∙ found_or_len p marks.items in
    c.truncate.ensures.items ∙ ap (take MARKED) (c.in_ok-insert.ensures.items ∙ ap (λ (i : ℕ). insert marks.items i mark) at ∙ inserted_at mark marks.items)
