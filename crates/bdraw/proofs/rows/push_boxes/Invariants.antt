use Rattle.std.proofs.Common.{◌≡◌, ◌+◌, ◌%◌, ◌++◌, ◌∷◌, []}
use Rattle.bdraw.specs.Pictures.{at_places, box}
use Rattle.bdraw.proofs.rows.push_boxes.Given as goal

abbrev pub invariant-loop-place : goal.invariant-loop-place
invariant-loop-place g l = l.shapes.items ≡ l.fn.shapes.items ++ at_places (λ place. box l.scene.program.now.image (g.M.Memory.seen_words l.scene.memory.now) l.y place ((l.first + place) % 65536) ∷ []) l.place
