use Rattle.std.proofs.Common.{refl}
use Rattle.bcheck.specs.Pieces.{edit_text, spot_text}
use Rattle.bcheck.specs.Checks.{edits_text}
use Rattle.bcheck.proofs.AddedFindings.{adds_json, edits_told, on_ok, second_of, second_same, so_few}
use Rattle.bcheck.proofs.json.write.Goals as goal

pub returns : goal.returns
returns c = λ edition files source start x l i tried few.
    let told = c.args.told.now in
    let words = told.words.now in
    let edits = edits_told edition files source told.edits.now tried in
    on_ok c.push.result _ _ (λ e.
    adds_json source start told.excerpt x words.code.now words.sentence words.fix c.requires (second_of files source told.second i) edition edits.parts edits.mend (so_few _ _ edits.long few) told.severity files told.at c.as_bytes.result.now c.word.result.now c.as_bytes-2.result.now c.as_slice.result.now c.as_slice-2.result.now (spot_text told.second) (edits_text edit_text told.edits.now) c.args.text.now _ _ _ _ c.mark_end.result told.excerpt.unit told.excerpt.unit_end c.mark_end.ensures refl refl
    l c.as_bytes.ensures.value c.word.ensures c.as_bytes-2.ensures.value c.as_slice.ensures c.as_slice-2.ensures (second_same files source told.second i) edits.array c.in_ok-push_all.ensures c.in_ok-push_second.ensures c.in_ok-push_edits.ensures e)
    c.push.ensures
