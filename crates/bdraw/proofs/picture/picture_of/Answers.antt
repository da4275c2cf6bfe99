use Rattle.std.proofs.Common.{◌∙◌, ◌∷◌, [], List, ap, map, refl, subst, take}
use Rattle.std.specs.Prelude.{drop}
use Rattle.std.proofs.lemmas.List.{drop_min, take_min}
use Rattle.blang.specs.declared.code.Definition.{Definition}
use Rattle.blang.specs.Layout.{shape_of}
use Rattle.bdraw.specs.Pictures.{box_row, name_row, names_left_out, text_row}
use Rattle.bdraw.specs.Stacks.{Adds, drawn_in}
use Rattle.bdraw.specs.declared.picture.TheConstants.{MOST_NAMES}
use Rattle.bdraw.specs.declared.shapes.LabelStyle.TheVariants as style
use Rattle.bdraw.proofs.Stacking.{all_rows, rest_of}
use Rattle.bdraw.proofs.picture.picture_of.Goals as goal

pub returns : goal.returns
returns g c =
    let scene = c.args.scene.now in
    let words = g.M.Memory.seen_words scene.memory.now in
    let q = drawn_in scene.program.now scene.tables.now in
    let own = c.as_slice-definitions.ensures.value in
    let few = ap (λ n. take n c.as_slice-definitions.result.now) c.min-count.ensures ∙ take_min MOST_NAMES c.as_slice-definitions.result.now ∙ ap (λ (ds : List Definition). take MOST_NAMES ds) own in
    let others = rest_of c.as_slice-definitions.result.now c.min-count.result ∙ ap (λ n. drop n c.as_slice-definitions.result.now) c.min-count.ensures ∙ drop_min MOST_NAMES c.as_slice-definitions.result.now ∙ ap (λ (ds : List Definition). drop MOST_NAMES ds) own in
    all_rows q words scene.calls.now.drawn.items scene.calls.now.others (record { shapes = c.new.result; height = 56 }) c.add_library.new.self c.add_names.new.self c.add_names_left_out.new.self c.add_line.new.self c.add_calls_left_out.new.self c.add_frames.new.self
    c.new.ensures.items refl c.in_ok-add_library.ensures
    (subst (λ (ds : List Definition). Adds (map (λ d. box_row (name_row q.image words (shape_of d))) ds) c.add_library.new.self c.add_names.new.self) few c.in_ok-add_names.ensures)
    (subst (λ (ds : List Definition). Adds (names_left_out q.image ds) c.add_names.new.self c.add_names_left_out.new.self) others c.in_ok-add_names_left_out.ensures)
    (subst (λ t. Adds (text_row style.Name t ∷ []) c.add_names_left_out.new.self c.add_line.new.self) c.in_ok-data_end_of.ensures c.in_ok-add_line.ensures)
    c.in_ok-add_calls_left_out.ensures c.in_ok-add_frames.ensures
