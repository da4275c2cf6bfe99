use Rattle.std.proofs.Common.{◌∷◌, ◌++◌, [], codes}
use Rattle.std.proofs.lemmas.Result.{on_ok_weaker}
use Rattle.bdraw.specs.Pictures.{above, at_places, down, label, library_name, words_row}
use Rattle.bdraw.specs.declared.shapes.LabelStyle.TheVariants as style
use Rattle.bdraw.proofs.Stacking.{both}
use Rattle.bdraw.proofs.rows.push_library.Goals as goal

pub returns : goal.returns
returns g c =
    let y = c.args.y in
    let old = c.args.shapes.now.items in
    let name = label 16 (down y 14) style.Name (codes "the library") ∷ [] in
    let words = words_row c.args.scene.now.program.now.image (g.M.Memory.seen_words c.args.scene.now.memory.now) y 0 7 in
    let names = at_places (λ place. above y place (library_name place) ∷ []) 7 in
    on_ok_weaker c.push_library_names.result (λ last.
    both old c.push_words.new.shapes.items c.push_library_names.new.shapes.items (name ++ words) names
    (both old c.push_text.new.shapes.items c.push_words.new.shapes.items name words c.in_ok-push_text.ensures c.in_ok-push_words.ensures) last) c.push_library_names.ensures
