use Rattle.bcheck.proofs.AddedFindings.{adds_change, on_ok}
use Rattle.bcheck.proofs.pieces.push_change.Goals as goal

pub returns : goal.returns
returns c = on_ok c.push_all.result _ _ (λ e. adds_change c.args.edit.now c.args.text.now _ c.as_bytes.result.now c.cut_mark.result.now c.as_bytes.ensures.value c.cut_mark.ensures e) c.push_all.ensures
