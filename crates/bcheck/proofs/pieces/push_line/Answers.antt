use Rattle.bcheck.proofs.AddedFindings.{adds_line, on_ok}
use Rattle.bcheck.proofs.pieces.push_line.Goals as goal

pub returns : goal.returns
returns c = on_ok c.push_all.result _ _ (λ e. adds_line c.args.edit.now c.args.text.now _ c.cut_mark.result.now c.cut_mark.ensures e) c.push_all.ensures
