use Rattle.std.proofs.Common.{◌∙◌, ◌++◌, ap, append_assoc, codes}
use Rattle.bcheck.specs.Pieces.{edit_text}
use Rattle.bcheck.proofs.AddedFindings.{on_ok}
use Rattle.bcheck.proofs.pieces.push_next.Goals as goal

pub returns : goal.returns
returns c =
    let edit = edit_text c.args.edit.now in
    on_ok c.push_edit.result _ _ (λ e. e ∙ ap (λ t. t ++ edit) c.in_ok-push.ensures ∙ append_assoc c.args.text.now (codes ",") edit) c.push_edit.ensures
