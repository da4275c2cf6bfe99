use Rattle.std.proofs.Common.{◌∙◌, ◌++◌, ap}
use Rattle.std.proofs.lemmas.Result.{on_ok_weaker}
use Rattle.btrace.specs.RowTexts.{legend_of, place_column, place_line, source_row}
use Rattle.btrace.proofs.places.push_source.Goals as goal

pub returns : goal.returns
returns c =
    let old = c.args.text.now in
    let source = c.args.source.now in
    on_ok_weaker c.push_source_row.result
    (λ end. end ∙ ap (λ line. old ++ source_row source line c.column_of.result) c.line_of.ensures
    ∙ ap (λ column. old ++ source_row source (place_line (legend_of c.args.legend.now) c.args.call) column) c.column_of.ensures)
    c.push_source_row.ensures
