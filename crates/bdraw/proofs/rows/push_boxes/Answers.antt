use Rattle.std.proofs.Common.{◌∙◌, ◌+◌, ◌%◌, ◌∷◌, ◌++◌, [], ap}
use Rattle.bdraw.specs.Pictures.{box}
use Rattle.bdraw.proofs.Stacking.{one_place}
use Rattle.bdraw.proofs.rows.push_boxes.Goals as goal

pub loop-place-preserved : goal.loop-place-preserved
loop-place-preserved g c =
    let image = c.args.scene.now.program.now.image in
    let words = g.M.Memory.seen_words c.args.scene.now.memory.now in
    one_place (λ place. box image words c.args.y place ((c.args.first + place) % 65536) ∷ []) c.args.shapes.now.items c.loop-place.shapes.items _ c.loop-place.place c.loop-place.invariant
    (c.in_ok-push.ensures.items ∙ ap (λ s. c.loop-place.shapes.items ++ s ∷ []) c.cell_at-cell.ensures)
