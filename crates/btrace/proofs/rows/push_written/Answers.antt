use Rattle.std.proofs.Common.{◌∙◌, ◌++◌, ap, sym}
use Rattle.std.proofs.lemmas.Result.{on_ok_weaker}
use Rattle.btools.proofs.AddedTexts.{piece}
use Rattle.btrace.proofs.RowParts.{some_written}
use Rattle.btrace.proofs.rows.push_written.Goals as goal

pub returns : goal.returns
returns c =
    on_ok_weaker c.push-2.result (λ end.
    piece _ _ _ _ _ (piece _ _ _ _ _ (piece _ _ _ _ _ c.in_ok-push_margin.ensures c.in_ok-push.ensures) c.in_ok-push_bytes.ensures) end
    ∙ ap (λ x. c.args.text.now ++ x) (sym (some_written c.args.bytes.now (λ none. let h = rw none at c.is_empty.ensures in cc)))) c.push-2.ensures
