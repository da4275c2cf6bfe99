use Rattle.std.proofs.Common.{map, take}
use Rattle.blang.specs.Layout.{shape_of}
use Rattle.bdraw.specs.Pictures.{box_row, name_row}
use Rattle.bdraw.specs.Stacks.{Adds}
use Rattle.bdraw.proofs.picture.Picture.add_names.Given as goal

abbrev pub invariant-loop-definition : goal.invariant-loop-definition
invariant-loop-definition g l =
    Adds (map (λ d. box_row (name_row l.scene.program.now.image (g.M.Memory.seen_words l.scene.memory.now) (shape_of d))) (take l.definition-index l.definitions)) l.fn.self l.self
