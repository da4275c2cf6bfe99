use Rattle.std.proofs.Common.{◌∙◌, ◌++◌, ap, codes, decimal}
use Rattle.std.proofs.lemmas.Result.{on_ok_weaker}
use Rattle.btools.specs.Columns.{left, right}
use Rattle.btools.specs.Functions.{name_in}
use Rattle.btrace.specs.RowTexts.{column_told, legend_of, line_text, name_of, place_column, place_line}
use Rattle.btools.proofs.AddedTexts.{piece}
use Rattle.btrace.proofs.PlaceParts.{site_parts}
use Rattle.btrace.proofs.places.push_site.Goals as goal

pub returns : goal.returns
returns c =
    let legend = legend_of c.args.legend.now in
    let call = c.args.call in
    let name = c.name_of.ensures ∙ ap name_in c.entry-entry.ensures.function in
    let lined =
    site_parts (codes "in ") (codes " place ") (codes "  line ") c.args.text.now c.push.new.self c.push_left.new.self c.push-2.new.self c.push_right_number.new.self c.push-3.new.self c.push_line.new.text
    c.name_of.result.now (name_of legend call) (right 4 (decimal call.place)) (line_text 4 legend.files (place_line legend call))
    c.in_ok-push.ensures c.in_ok-push_left.ensures name c.in_ok-push-2.ensures c.in_ok-push_right_number.ensures c.in_ok-push-3.ensures
    (c.in_ok-push_line.ensures ∙ ap (λ line. c.push-3.new.self ++ line_text 4 legend.files line) c.line_of.ensures) in
    on_ok_weaker c.push_column.result (λ end.
    piece c.args.text.now c.push_line.new.text c.push_column.new.text (codes "in " ++ left 8 (name_of legend call) ++ codes " place " ++ right 4 (decimal call.place) ++ codes "  line " ++ line_text 4 legend.files (place_line legend call))
    (column_told (place_column legend call)) lined (end ∙ ap (λ column. c.push_line.new.text ++ column_told column) c.column_of.ensures)) c.push_column.ensures
