use Rattle.std.proofs.Common.{◌∙◌, ◌++◌, codes, decimal}
use Rattle.std.proofs.lemmas.Result.{on_ok_weaker}
use Rattle.btools.proofs.AddedTexts.{piece}
use Rattle.btools.specs.Characters.{signed_text}
use Rattle.btrace.specs.RowTexts.{margin}
use Rattle.btrace.proofs.rows.push_word.Goals as goal

pub returns : goal.returns
returns g c =
    on_ok_weaker c.push-3.result (λ end.
    piece _ _ _ _ _ (piece _ _ _ _ _ (piece _ _ _ _ _ (piece _ _ _ _ _ (piece _ _ _ _ _ c.in_ok-push_margin.ensures c.in_ok-push.ensures) c.in_ok-push_number.ensures) c.in_ok-push-2.ensures) c.in_ok-push_signed.ensures) end
    ∙ (λ i. c.args.text.now ++ (margin ++ codes "@" ++ decimal (c.from.ensures i) ++ codes " = " ++ signed_text (c.word.ensures i) ++ codes "\n"))) c.push-3.ensures
