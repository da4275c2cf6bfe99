use Rattle.bcheck.proofs.AddedFindings.{adds_edit, on_ok}
use Rattle.bcheck.proofs.pieces.push_edit.Goals as goal

pub returns : goal.returns
returns c =
    on_ok c.push_all.result _ _ (λ e. adds_edit c.args.edit.now c.args.text.now _ _ _ c.end.result c.end.ensures c.in_ok-push.ensures c.in_ok-push_file_of.ensures e)
    c.push_all.ensures
