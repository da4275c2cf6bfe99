use Rattle.std.proofs.Common.{◌∙◌, ◌++◌, ℕ, List, ap, min}
use Rattle.std.specs.Prelude.{unwrap_or}
use Rattle.std.proofs.lemmas.Result.{on_ok_weaker}
use Rattle.btools.specs.Programs.{image_address}
use Rattle.bdraw.specs.Pictures.{at_places, characters, heading, words_row}
use Rattle.bdraw.specs.declared.shapes.Shape.{Shape}
use Rattle.bdraw.proofs.Stacking.{both}
use Rattle.bdraw.proofs.rows.push_name.Goals as goal

pub returns : goal.returns
returns g c =
    let y = c.args.y in
    let old = c.args.shapes.now.items in
    let image = c.args.scene.now.program.now.image in
    let words = g.M.Memory.seen_words c.args.scene.now.memory.now in
    let head : (name kind : List ℕ) (count : ℕ) → List Shape = λ name kind count. heading y name kind count in
    let all : (address count : ℕ) → List Shape = λ address count. words_row image words y address count in
    let strings : (address others most : ℕ) → List Shape = λ address others most. at_places (characters image words y address others) most in
    let name = c.as_bytes.ensures.text ∙ c.name_of-name.ensures in
    let address = c.unwrap_or-address.ensures ∙ ap (λ o. unwrap_or o 0) c.address.ensures ∙ ap (image_address image) c.name_of-name.ensures in
    let count = c.size_of-count.ensures.value in
    let most = c.min.ensures ∙ ap (λ n. min n 9) count in
    on_ok_weaker c.push_strings.result (λ last.
    both old c.push_words.new.shapes.items c.push_strings.new.shapes.items _ _
    (both old c.push_heading.new.shapes.items c.push_words.new.shapes.items _ _ c.in_ok-push_heading.ensures c.in_ok-push_words.ensures) last
    ∙ (λ i. old ++ (head (name i) (c.kind_name.ensures i) (count i) ++ all (address i) (count i) ++ strings (address i) (c.words_before_strings-others.ensures i) (most i))))
    c.push_strings.ensures
