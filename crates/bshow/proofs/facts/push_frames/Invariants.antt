use Rattle.std.proofs.Common.{◌≡◌, ◌++◌, codes, take}
use Rattle.std.specs.List.{flat_map}
use Rattle.bshow.specs.Facts.{frame_text}
use Rattle.bshow.proofs.facts.push_frames.Given as goal

abbrev pub invariant-loop-frame : goal.invariant-loop-frame
invariant-loop-frame l = l.text ≡ (l.fn.text ++ codes "[") ++ flat_map frame_text (take l.frame-index l.frames)
