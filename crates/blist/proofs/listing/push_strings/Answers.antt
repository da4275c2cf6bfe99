use Rattle.std.proofs.Common.{◌∙◌, ◌++◌, ℕ, [], None, get_or}
use Rattle.std.proofs.lemmas.List.{get_or_default}
use Rattle.blang.specs.Text.{string_line}
use Rattle.blist.specs.declared.rows.CodeSpot.TheVariants as spot
use Rattle.blist.specs.declared.rows.Named.TheVariants as named
use Rattle.blist.specs.ListingTexts.{row_text, word_spot}
use Rattle.blist.proofs.AddedRows.{page_is, rows_more}
use Rattle.blist.proofs.Spots.{later}
use Rattle.blist.proofs.listing.push_strings.Goals as goal

pub loop-index-preserved : goal.loop-index-preserved
loop-index-preserved c =
    let old = c.loop-index.text in
    let i = c.loop-index.index in
    let word = get_or c.args.words.now i 0 in
    let here = later c.args.address c.low_word.result i c.low_word.ensures in
    let page = page_is c.new-page.result c.push_number_line.new.page (string_line word) (string_line word) c.new-page.ensures c.push_number_line.ensures (λ j. string_line word) in
    rows_more (λ k (w : ℕ). row_text (word_spot c.args.address k) None (string_line w) [] (named.Characters w)) c.args.text.now old c.push_row.new.text c.args.words.now i word c.loop-index-test.true (get_or_default _ _ _ _ c.loop-index-test.true) c.loop-index.invariant
    (c.in_ok-push_row.ensures ∙ (λ j. old ++ row_text (spot.Address (here j)) None (page j) [] (named.Characters word)))
