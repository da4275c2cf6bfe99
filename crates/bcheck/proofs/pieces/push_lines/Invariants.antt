use Rattle.std.proofs.Common.{◌≡◌, ◌++◌, take}
use Rattle.std.specs.List.{flat_map}
use Rattle.bcheck.specs.Pieces.{line_text}
use Rattle.bcheck.proofs.pieces.push_lines.Given as goal

abbrev pub invariant-loop-edit : goal.invariant-loop-edit
invariant-loop-edit l = l.text ≡ l.fn.text ++ flat_map line_text (take l.edit-index l.edits)
