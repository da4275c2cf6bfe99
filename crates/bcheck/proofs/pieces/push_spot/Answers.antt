use Rattle.std.proofs.Common.{◌∙◌, ◌++◌, ap, codes, decimal}
use Rattle.bcheck.specs.Checks.{file_member}
use Rattle.bcheck.proofs.AddedFindings.{on_ok, three_more}
use Rattle.bcheck.proofs.pieces.push_spot.Goals as goal

pub returns : goal.returns
returns c =
    let spot = c.args.spot.now in
    let old = c.args.text.now in
    let begins = codes ",\"related\":{" in
    let member = file_member spot.is_of_several spot.at.file.now in
    let rest = codes "\"line\":" ++ (decimal spot.at.line ++ (codes ",\"column\":" ++ (decimal spot.column ++ (codes ",\"utf16_column\":" ++ (decimal spot.unit ++ codes "}"))))) in
    on_ok c.push_all.result _ _ (λ e.
    e ∙ ap (λ t. t ++ rest) (c.in_ok-push_file_of.ensures ∙ ap (λ t. t ++ member) c.in_ok-push.ensures) ∙ three_more old begins member rest)
    c.push_all.ensures
