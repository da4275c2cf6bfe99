use Rattle.std.proofs.lemmas.Result.{on_ok_weaker}
use Rattle.blist.specs.ListingTexts.{named_text}
use Rattle.btools.specs.Columns.{left}
use Rattle.blist.proofs.AddedRows.{columns_added}
use Rattle.blist.proofs.rows.push_with_name.Goals as goal

pub returns : goal.returns
returns c =
    on_ok_weaker c.push_named.result (columns_added c.args.text.now c.push_left.new.self c.push.new.self c.push_source.new.text c.push_blanks.new.self c.push-2.new.self c.push_named.new.text (left 13 c.args.code.now) c.args.source.now (named_text c.args.named) c.saturating_sub.result
    c.saturating_sub.ensures c.in_ok-push_left.ensures c.in_ok-push.ensures c.in_ok-push_source.ensures c.in_ok-push_blanks.ensures c.in_ok-push-2.ensures) c.push_named.ensures
