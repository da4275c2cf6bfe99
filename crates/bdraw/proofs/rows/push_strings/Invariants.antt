use Rattle.std.proofs.Common.{◌≡◌, ◌++◌}
use Rattle.bdraw.specs.Pictures.{at_places, characters}
use Rattle.bdraw.proofs.rows.push_strings.Given as goal

abbrev pub invariant-loop-place : goal.invariant-loop-place
invariant-loop-place g l = l.shapes.items ≡ l.fn.shapes.items ++ at_places (characters l.scene.program.now.image (g.M.Memory.seen_words l.scene.memory.now) l.y l.address l.others) l.place
