use Rattle.std.proofs.Common.{◌≡◌, ◌∙◌, ◌+◌, ◌++◌, ◌%◌, ap, [], ◌∷◌, List, ℕ, None, codes, decimal, map, option_map}
use Rattle.std.specs.Borrow.{Bor}
use Rattle.std.proofs.lemmas.Result.{on_ok_weaker}
use Rattle.blang.specs.CodeParts.{function_of}
use Rattle.blang.specs.Text.{header_line, line}
use Rattle.blang.specs.declared.code.Definition.TheVariants as definition
use Rattle.btools.specs.declared.names.Frame.{Frame}
use Rattle.blist.specs.declared.rows.CodeSpot.TheVariants as spot
use Rattle.blist.specs.declared.rows.Named.TheVariants as named
use Rattle.blist.specs.ListingTexts.{code_rows, row_text, string_rows, target_rows}
use Rattle.blist.proofs.AddedRows.{function_rows, page_is}
use Rattle.blist.proofs.Spots.{same_strings, wrapped}
use Rattle.blist.proofs.listing.push_function.Goals as goal

pub returns : goal.returns
returns c =
    let p = c.args.parts.now in
    let old = c.args.text.now in
    let address = c.args.address in
    let told = c.args.told in
    let frame = option_map (λ (f : Bor Frame). f.now) told.frame in
    let texts = map (λ (t : Bor (List ℕ)). t.now) told.texts.now in
    let header : c.push_header_line.new.page ≡ header_line (definition.Function (function_of p)) =
    page_is _ _ _ _ c.new-page.ensures c.push_header_line.ensures (λ i. line (codes "F" ∷ p.name ∷ decimal (c.from.ensures i) ∷ decimal (c.from-2.ensures i) ∷ decimal ((c.len.ensures ∙ p.targets.ok.0) i) ∷ decimal ((c.len-2.ensures ∙ p.strings.ok.0) i) ∷ decimal ((c.len-3.ensures ∙ p.code.ok.0) i) ∷ [])) in
    on_ok_weaker c.push_code.result (λ code. function_rows old c.push_header.new.text c.push_targets.new.text c.push_strings.new.text c.push_code.new.text _ _ _ _
    (c.in_ok-push_header.ensures ∙ (λ i. old ++ row_text (spot.Address address) None (header i) [] named.Nothing))
    (c.in_ok-push_targets.ensures ∙ (λ i. c.push_header.new.text ++ target_rows frame (c.deref.ensures.value i)))
    (c.in_ok-push_strings.ensures ∙ (λ i. c.push_targets.new.text ++ string_rows ((address + 1) % 65536) (c.deref-2.ensures.value i)) ∙ ap (λ rows. c.push_targets.new.text ++ rows) (same_strings _ (address + 1) p.strings.items (wrapped (address + 1))))
    (code ∙ (λ i. c.push_strings.new.text ++ code_rows texts told.lines.now frame (c.deref-3.ensures.value i))))
    c.push_code.ensures
