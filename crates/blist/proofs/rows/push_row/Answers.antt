use Rattle.std.proofs.Common.{arith, codes}
use Rattle.std.proofs.lemmas.Grind.{common_steps}
use Rattle.std.proofs.lemmas.Result.{on_ok_weaker}
use Rattle.btools.specs.Columns.{right, without_newline}
use Rattle.blist.specs.ListingTexts.{columns_text, number_text, spot_text}
use Rattle.blist.proofs.AddedRows.{row_added}
use Rattle.blist.proofs.rows.push_row.Goals as goal

pub returns : goal.returns
returns c =
    let told = c.args.told in
    on_ok_weaker c.push.result (λ end. row_added c.args.text.now c.push_spot.new.text c.push_line_number.new.text c.push_columns.new.text c.push.new.self (right 6 (spot_text told.spot)) (right 6 (number_text told.line)) (columns_text (without_newline c.args.page.now) told.source.now told.named) (codes "\n")
    c.in_ok-push_spot.ensures c.in_ok-push_line_number.ensures
    (grind (arith, common_steps, c.in_ok-push_columns.ensures, c.as_slice-line.ensures, c.saturating_sub.ensures)) end) c.push.ensures
