use Rattle.std.proofs.Common.{◌+◌, ap}
use Rattle.std.proofs.lemmas.List.{get_or_default}
use Rattle.std.proofs.lemmas.Result.{on_ok_weaker}
use Rattle.bsources.specs.Files.{Line, files_shown, line_shown}
use Rattle.bcount.proofs.Rows.{object_row, table_row}
use Rattle.bcount.proofs.table.push_row.Goals as goal

pub returns-in-Json : goal.returns-in-Json
returns-in-Json c =
    on_ok_weaker c.push_object.result
    (λ e. object_row c.args.table.now.style (files_shown c.args.table.now.files) (c.args.index + 1) _ _ c.args.is_marked c.args.source.now (line_shown c.own_line-at.result) c.args.text.now c.push_object.new.text c.in-Json.is c.own_line-at.ensures (get_or_default _ _ _ _ c.requires) e)
    c.push_object.ensures

pub returns-in_ok-push_beside-in-Table : goal.returns-in_ok-push_beside-in-Table
returns-in_ok-push_beside-in-Table c =
    on_ok_weaker c.push.result
    (λ e. table_row c.args.table.now.style (files_shown c.args.table.now.files) (c.args.index + 1) _ _ c.args.is_marked c.args.source.now c.own_line-at.result.line _ c.args.text.now c.push_file_row.new.text c.push_cells.new.text c.push_beside.new.text c.push.new.self c.in-Table.is
    c.beyond_first.ensures (ap (λ (l : Line). l.line) c.own_line-at.ensures) (get_or_default _ _ _ _ c.requires) c.in_ok-push_file_row-in-Table.ensures c.in_ok-push_cells-in-Table.ensures c.in_ok-push_beside-in-Table.ensures e)
    c.push.ensures
