use Rattle.std.proofs.Common.{◌≡◌, ◌∙◌, ◌+◌, ◌++◌, ◌%◌, arith, ap, [], ◌∷◌, None, codes, decimal, length, max}
use Rattle.std.proofs.lemmas.Result.{on_ok_weaker}
use Rattle.blang.specs.CodeParts.{simple_of}
use Rattle.blang.specs.Text.{header_line, line}
use Rattle.blang.specs.declared.code.Definition.TheVariants as definition
use Rattle.blist.specs.declared.rows.CodeSpot.TheVariants as spot
use Rattle.blist.specs.declared.rows.Named.TheVariants as named
use Rattle.blist.specs.ListingTexts.{row_text, string_rows, value_rows}
use Rattle.blist.proofs.AddedRows.{data_rows, page_is}
use Rattle.blist.proofs.Spots.{after_words, same_strings}
use Rattle.blist.proofs.listing.push_simple.Goals as goal

pub returns : goal.returns
returns c =
    let p = c.args.parts.now in
    let old = c.args.text.now in
    let header : c.push_header_line.new.page ≡ header_line (definition.Simple (simple_of p)) =
    page_is _ _ _ _ c.new-page.ensures c.push_header_line.ensures (λ i. line (codes "X" ∷ p.name ∷ decimal ((c.len.ensures ∙ p.values.ok.0) i) ∷ decimal ((c.len-2.ensures ∙ p.strings.ok.0) i) ∷ [])) in
    let words : c.max.result ≡ max 1 (length p.values.items) = omega (arith, c.max.ensures, c.len-3.ensures, p.values.ok.0) in
    let there = after_words c.args.address c.low_word-words.result (max 1 (length p.values.items)) (c.low_word-words.ensures ∙ ap (λ n. n % 65536) words) in
    on_ok_weaker c.push_strings.result (λ strings. data_rows old c.push_header.new.text c.push_values.new.text c.push_strings.new.text _ _ _
    (c.in_ok-push_header.ensures ∙ (λ i. old ++ row_text (spot.Address c.args.address) None (header i) [] named.Nothing))
    (c.in_ok-push_values.ensures ∙ (λ i. c.push_header.new.text ++ value_rows c.args.address c.args.told.lines.now (c.deref.ensures.value i)))
    (strings ∙ (λ i. c.push_values.new.text ++ string_rows ((c.args.address + c.low_word-words.result) % 65536) (c.deref-2.ensures.value i)) ∙ ap (λ rows. c.push_values.new.text ++ rows) (same_strings _ _ p.strings.items there)))
    c.push_strings.ensures
