use Rattle.std.proofs.Common.{◌∙◌, ◌++◌, ap, arith}
use Rattle.std.specs.List.{flat_map}
use Rattle.std.proofs.lemmas.List.{take_all}
use Rattle.bcheck.specs.Pieces.{line_text}
use Rattle.bcheck.proofs.AddedFindings.{item_more}
use Rattle.bcheck.proofs.pieces.push_lines.Goals as goal

pub loop-edit-preserved : goal.loop-edit-preserved
loop-edit-preserved c = item_more line_text c.args.text.now c.loop-edit.text c.push_line.new.text c.args.edits.now c.loop-edit.edit-index _ c.loop-edit-test.true c.loop-edit.invariant c.in_ok-push_line.ensures

pub returns : goal.returns
returns c = c.loop-edit.invariant ∙ ap (λ es. c.args.text.now ++ flat_map line_text es) (take_all c.loop-edit.edit-index c.args.edits.now (omega arith))
