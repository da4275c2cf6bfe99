use Rattle.std.proofs.Common.{◌∙◌, ◌++◌, ◌+◌, ◌%◌, ◌^◌, ℕ, List, ap, codes, decimal}
use Rattle.std.proofs.lemmas.Result.{on_ok_weaker}
use Rattle.btools.proofs.AddedTexts.{piece}
use Rattle.bdraw.specs.Shapes.{svg_opening, text_element}
use Rattle.bdraw.proofs.shapes.push_cell.Goals as goal

pub returns : goal.returns
returns c =
    let cell = c.args.cell.now in
    let frame : List ℕ → List ℕ = λ f. svg_opening (codes "rect") f cell.x cell.y in
    let size : List ℕ = codes " width='56' height='20'/>\n" in
    let word : List ℕ = text_element (codes "word") ((cell.x + 28) % 2 ^ 32) ((cell.y + 14) % 2 ^ 32) (decimal cell.word) in
    let below : List ℕ = text_element (codes "below") ((cell.x + 28) % 2 ^ 32) ((cell.y + 29) % 2 ^ 32) (decimal cell.address) in
    let name = c.fill_name.result.now in
    let start = c.args.text.now in
    on_ok_weaker c.push_number-2.result (λ end.
    piece start c.push_number.new.text c.push_number-2.new.text (frame name ++ size ++ word) below
    (piece start c.push.new.self c.push_number.new.text (frame name ++ size) word
    (piece start c.push_opening.new.text c.push.new.self (frame name) size c.in_ok-push_opening.ensures c.in_ok-push.ensures) c.in_ok-push_number.ensures) end
    ∙ ap (λ f. start ++ (frame f ++ size ++ word ++ below)) c.fill_name.ensures) c.push_number-2.ensures
