use Rattle.std.proofs.Common.{◌≡◌, ◌++◌}
use Rattle.bdraw.specs.Pictures.{at_places, frame_name}
use Rattle.btools.specs.FrameNames.{frame_seen, name_shown}
use Rattle.bdraw.proofs.rows.push_frame_names.Given as goal

abbrev pub invariant-loop-place : goal.invariant-loop-place
invariant-loop-place l = l.shapes.items ≡ l.fn.shapes.items ++ at_places (λ place. frame_name l.y place (name_shown (frame_seen l.frame) place)) l.place
