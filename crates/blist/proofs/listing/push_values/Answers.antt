use Rattle.std.proofs.Common.{◌≡◌, ◌∙◌, ◌++◌, []}
use Rattle.std.specs.List.{slice_get}
use Rattle.blang.specs.Text.{ival_line}
use Rattle.blang.specs.declared.code.Ival.{Ival}
use Rattle.blist.specs.declared.rows.CodeSpot.TheVariants as spot
use Rattle.blist.specs.declared.rows.Named.TheVariants as named
use Rattle.blist.specs.ListingTexts.{row_text, word_spot}
use Rattle.blist.proofs.AddedRows.{copied_is, page_is, rows_more}
use Rattle.blist.proofs.Spots.{later}
use Rattle.blist.proofs.listing.push_values.Goals as goal

pub loop-index-preserved : goal.loop-index-preserved
loop-index-preserved c =
    let old = c.loop-index.text in
    let i = c.loop-index.index in
    let value = c.index-values-index.result in
    let here = later c.args.address c.low_word.result i c.low_word.ensures in
    let page = page_is c.new-page.result c.push_ival_line.new.page (ival_line value) (ival_line value) c.new-page.ensures c.push_ival_line.ensures (λ j. ival_line value) in
    let line : c.copied.result ≡ slice_get c.args.lines.now i = c.copied.ensures ∙ copied_is c.get.result c.args.lines.now i c.get.ensures.lookup.3 in
    rows_more (λ k (v : Ival). row_text (word_spot c.args.address k) (slice_get c.args.lines.now k) (ival_line v) [] named.Nothing) c.args.text.now old c.push_row.new.text c.args.values.now i value c.loop-index-test.true c.index-values-index.is c.loop-index.invariant
    (c.in_ok-push_row.ensures ∙ (λ j. old ++ row_text (spot.Address (here j)) (line j) (page j) [] named.Nothing))
