use Rattle.std.proofs.Common.{None, refl}
use Rattle.std.specs.List.{flat_map}
use Rattle.bcheck.specs.Pieces.{line_text}
use Rattle.bcheck.proofs.AddedFindings.{adds_text, edits_told, on_ok, so_few}
use Rattle.bcheck.proofs.text.write.Goals as goal

pub returns : goal.returns
returns c = λ edition files source start x l tried few.
    let told = c.args.told.now in
    let words = told.words.now in
    let edits = edits_told edition files source told.edits.now tried in
    on_ok c.push_all-2.result _ _ (λ e.
    adds_text source start told.excerpt x words.code.now words.sentence words.fix c.requires None edition edits.parts edits.mend (so_few _ _ edits.long few) told.severity files told.at c.as_bytes.result.now c.word.result.now c.as_slice.result.now c.as_slice-2.result.now (flat_map line_text told.edits.now) c.args.text.now _ _ _ _
    l c.as_bytes.ensures.value c.word.ensures c.as_slice.ensures c.as_slice-2.ensures edits.lines refl c.in_ok-push_all.ensures c.in_ok-push_lines.ensures e)
    c.push_all-2.ensures
