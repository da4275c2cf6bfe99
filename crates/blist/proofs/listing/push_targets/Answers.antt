use Rattle.std.proofs.Common.{◌∙◌, ◌++◌, ℕ, [], None, get_or, option_map}
use Rattle.std.specs.Borrow.{Bor}
use Rattle.std.proofs.lemmas.List.{get_or_default}
use Rattle.blang.specs.Text.{target_line}
use Rattle.btools.specs.declared.names.Frame.{Frame}
use Rattle.blist.specs.declared.rows.CodeSpot.TheVariants as spot
use Rattle.blist.specs.ListingTexts.{label_named, row_text}
use Rattle.blist.proofs.AddedRows.{page_is, rows_more}
use Rattle.blist.proofs.listing.push_targets.Goals as goal

pub loop-index-preserved : goal.loop-index-preserved
loop-index-preserved c =
    let old = c.loop-index.text in
    let i = c.loop-index.index in
    let target = get_or c.args.targets.now i 0 in
    let frame = option_map (λ (f : Bor Frame). f.now) c.args.frame in
    let page = page_is c.new-page.result c.push_number_line.new.page (target_line target) (target_line target) c.new-page.ensures c.push_number_line.ensures (λ j. target_line target) in
    rows_more (λ k (t : ℕ). row_text spot.Nowhere None (target_line t) [] (label_named frame k)) c.args.text.now old c.push_row.new.text c.args.targets.now i target c.loop-index-test.true (get_or_default _ _ _ _ c.loop-index-test.true) c.loop-index.invariant
    (c.in_ok-push_row.ensures ∙ (λ j. old ++ row_text spot.Nowhere None (page j) [] (c.label_in.ensures j)))
