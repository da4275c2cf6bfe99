use Rattle.std.proofs.Common.{◌≡◌, ◌∙◌, ◌++◌, ap, codes, decimal}
use Rattle.std.specs.Prelude.{min, unwrap_or}
use Rattle.std.proofs.lemmas.Result.{on_ok_weaker}
use Rattle.blang.specs.Layout.{shape_of, size_of}
use Rattle.btools.specs.Columns.{left, right}
use Rattle.blist.specs.Maps.{dots, words_from}
use Rattle.btools.specs.Programs.{image_address}
use Rattle.btools.proofs.AddedTexts.{piece}
use Rattle.blist.proofs.layout.push_row.Goals as goal

pub returns : goal.returns
returns c =
    let image = c.args.image.now in
    let d = shape_of c.args.definition.now in
    let address : c.unwrap_or-address.result ≡ image_address image d.name =
    c.unwrap_or-address.ensures ∙ ap (λ o. unwrap_or o 0) c.address.ensures ∙ ap (image_address image) c.name_of-name.ensures in
    let number : c.from.result ≡ image_address image d.name = c.from.ensures ∙ address in
    let name : c.as_bytes.result.now ≡ d.name = c.as_bytes.ensures.text ∙ c.name_of-name.ensures in
    let size : c.from-2.result ≡ size_of d = c.from-2.ensures ∙ c.size_of-words.ensures.value in
    let count : c.min.result ≡ min (size_of d) 6 = c.min.ensures ∙ ap (λ n. min n 6) c.size_of-words.ensures.value in
    on_ok_weaker c.push-3.result (λ end.
    piece _ _ _ _ _ (piece _ _ _ _ _ (piece _ _ _ _ _ (piece _ _ _ _ _ (piece _ _ _ _ _ (piece _ _ _ _ _ (piece _ _ _ _ _ (piece _ _ _ _ _ c.in_ok-push_right_number.ensures c.in_ok-push.ensures) c.in_ok-push_left.ensures) c.in_ok-push_left-2.ensures) c.in_ok-push_right_number-2.ensures) c.in_ok-push-2.ensures) c.in_ok-push_words.ensures) c.in_ok-push_dots.ensures) end
    ∙ (λ i. c.args.text.now ++ (right 6 (decimal (number i)) ++ codes "  " ++ left 10 (name i) ++ left 8 (c.kind_name.ensures i) ++ right 7 (decimal (size i)) ++ codes " "
    ++ words_from image (address i) (count i) ++ dots (c.size_of-words.ensures.value i) ++ codes "\n"))) c.push-3.ensures
