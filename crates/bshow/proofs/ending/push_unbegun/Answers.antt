use Rattle.std.proofs.Common.{◌∙◌, ◌++◌, List, ℕ, ap, codes}
use Rattle.std.proofs.lemmas.Result.{on_ok_weaker}
use Rattle.btools.proofs.AddedTexts.{piece}
use Rattle.bshow.proofs.ending.push_unbegun.Goals as goal

pub returns : goal.returns
returns c =
    let begun : List ℕ = codes "The run never began: it was stopped by " in
    let start = c.args.text.now in
    on_ok_weaker c.push-3.result (λ end.
    piece start c.push-2.new.self c.push-3.new.self (begun ++ c.trap_words.result.now) (codes ".")
    (piece start c.push.new.self c.push-2.new.self begun c.trap_words.result.now c.in_ok-push.ensures c.in_ok-push-2.ensures) end
    ∙ ap (λ w. start ++ (begun ++ w ++ codes ".")) c.trap_words.ensures) c.push-3.ensures
