use Rattle.std.proofs.Common.{◌∙◌, ◌∷◌, ◌++◌, [], ap, nat_lt, if◌then◌else◌}
use Rattle.btools.specs.Characters.{shown_word}
use Rattle.bdraw.specs.Pictures.{above, characters}
use Rattle.bdraw.proofs.Stacking.{one_place}
use Rattle.bdraw.proofs.rows.push_strings.Goals as goal

pub loop-place-preserved : goal.loop-place-preserved
loop-place-preserved g c =
    let image = c.args.scene.now.program.now.image in
    let words = g.M.Memory.seen_words c.args.scene.now.memory.now in
    let place = c.loop-place.place in
    one_place (characters image words c.args.y c.args.address c.args.others) c.args.shapes.now.items c.loop-place.shapes.items _ place c.loop-place.invariant
    (c.in_ok-push_string_word.ensures
    ∙ ap (λ w. c.loop-place.shapes.items ++ (if nat_lt place c.args.others then [] else above c.args.y place (shown_word w) ∷ [])) c.look-word.ensures)
