use Rattle.std.proofs.Common.{◌≡◌, ◌∙◌, ◌++◌, List, ℕ, add-one, ap, map, option_map, sym}
use Rattle.std.specs.Borrow.{Bor}
use Rattle.std.specs.List.{slice_get}
use Rattle.blang.specs.Text.{instr_line}
use Rattle.blang.specs.declared.code.Instr.{Instr}
use Rattle.btools.specs.declared.names.Frame.{Frame}
use Rattle.blist.specs.declared.rows.CodeSpot.TheVariants as spot
use Rattle.blist.specs.ListingTexts.{instr_named, number_before, row_text, source_beside}
use Rattle.blist.proofs.AddedRows.{copied_is, page_is, rows_more}
use Rattle.blist.proofs.listing.push_code.Goals as goal

pub loop-place-preserved : goal.loop-place-preserved
loop-place-preserved c =
    let old = c.loop-place.text in
    let i = c.loop-place.place in
    let lines = c.args.told.lines.now in
    let frame = option_map (λ (f : Bor Frame). f.now) c.args.told.frame in
    let texts = map (λ (t : Bor (List ℕ)). t.now) c.args.told.texts.now in
    let instr = c.index-code-place.result in
    let before = c.loop-place.invariant.before in
    let line : c.copied-line.result ≡ slice_get lines i = c.copied-line.ensures ∙ copied_is c.get.result lines i c.get.ensures.lookup.3 in
    let page = page_is c.new-page.result c.push_instr_line.new.page (instr_line instr) (instr_line instr) c.new-page.ensures c.push_instr_line.ensures (λ j. instr_line instr) in
    let source = c.source_beside.ensures ∙ (λ j. source_beside texts (before j) (line j)) in
    record {
      before = line ∙ ap (number_before lines) (sym (add-one i));
      text = rows_more (λ k (x : Instr). row_text (spot.Place k) (slice_get lines k) (instr_line x) (source_beside texts (number_before lines k) (slice_get lines k)) (instr_named frame x)) c.args.text.now old c.push_row.new.text c.args.code.now i instr c.loop-place-test.true c.index-code-place.is c.loop-place.invariant.text
          (c.in_ok-push_row.ensures ∙ (λ j. old ++ row_text (spot.Place i) (line j) (page j) (source j) (c.named.ensures j)));
    }
