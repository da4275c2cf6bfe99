use Rattle.std.proofs.Common.{take}
use Rattle.std.specs.List.{flat_map}
use Rattle.bdraw.specs.Pictures.{call_rows}
use Rattle.bdraw.specs.Stacks.{Adds, drawn_in}
use Rattle.bdraw.proofs.picture.Picture.add_frames.Given as goal

abbrev pub invariant-loop-call : goal.invariant-loop-call
invariant-loop-call g l =
    Adds (flat_map (call_rows (drawn_in l.scene.program.now l.scene.tables.now) (g.M.Memory.seen_words l.scene.memory.now)) (take l.call-index l.call-items)) l.fn.self l.self
