use Rattle.std.proofs.Common.{◌∙◌, ◌-◌, ◌++◌, ap, codes, decimal, nat_lt, sym}
use Rattle.std.proofs.lemmas.Bool.{cond-false, cond-true, le-ltb, lt-ltb}
use Rattle.std.proofs.lemmas.Result.{on_ok_weaker}
use Rattle.btools.proofs.AddedTexts.{piece}
use Rattle.bcareful.proofs.telling.push_extent.Goals as goal

pub returns-in_ok-push : goal.returns-in_ok-push
returns-in_ok-push c =
    let words = c.args.thing.words in
    let many = codes ", which has words 0 to " ++ decimal (words - 1) in
    on_ok_weaker c.push_number.result (λ e.
    piece c.args.text.now c.push.new.self c.push_number.new.self (codes ", which has words 0 to ") (decimal (words - 1)) c.in_ok-push.ensures e
    ∙ ap (λ x. c.args.text.now ++ x) (sym (cond-true (nat_lt 1 words) many (codes ", which is one word") (lt-ltb 1 words c.if-thing-gt1.true)))) c.push_number.ensures

pub returns-else-thing-gt1 : goal.returns-else-thing-gt1
returns-else-thing-gt1 c =
    let words = c.args.thing.words in
    let many = codes ", which has words 0 to " ++ decimal (words - 1) in
    on_ok_weaker c.push-else-thing-gt1.result (λ e.
    e ∙ ap (λ x. c.args.text.now ++ x) (sym (cond-false (nat_lt 1 words) many (codes ", which is one word") (le-ltb 1 words c.if-thing-gt1.false)))) c.push-else-thing-gt1.ensures
