use Rattle.std.proofs.Common.{◌∙◌, ◌++◌, ap, codes, decimal, sym}
use Rattle.std.proofs.lemmas.Result.{on_ok_weaker}
use Rattle.bcheck.specs.Checks.{status_told}
use Rattle.btools.proofs.AddedTexts.{piece}
use Rattle.bfix.specs.LeftText.{left_words}
use Rattle.bfix.proofs.LeftSteps.{left_parts, left_some}
use Rattle.bfix.proofs.fixing.push_left.Goals as goal

pub returns : goal.returns
returns c =
    let old = c.args.told.now in
    let count = c.args.tally.now.count in
    let status = status_told c.args.tally.now.verdict in
    let words = left_words status count in
    let start = codes "left: " in
    let end_text = codes ", which b check tells\n" in
    let t2 = c.push_number.new.self in
    let t3 = c.push-2.new.self in
    let p2 = piece old c.push.new.self t2 start (decimal count) c.in_ok-push.ensures c.in_ok-push_number.ensures in
    let p3 = piece old t2 t3 (start ++ decimal count) words p2
    (c.in_ok-push-2.ensures ∙ ap (λ w. t2 ++ w) (c.left_words.ensures ∙ ap (λ s. left_words s count) c.status.ensures)) in
    on_ok_weaker c.push-3.result
    (λ end. piece old t3 c.push-3.new.self (start ++ decimal count ++ words) end_text p3 end
    ∙ left_parts old start (decimal count) words end_text
    ∙ ap (λ x. old ++ x) (sym (left_some status count c.if-tally-eq0.false)))
    c.push-3.ensures
