use Rattle.std.proofs.Common.{◌≡◌, map, take}
use Rattle.std.specs.List.{range_with_len}
use Rattle.bcount.specs.Counts.{line_count}
use Rattle.bcount.proofs.lines.lines_of.Given as goal

-- so many instructions were added to their lines
abbrev pub invariant-loop-instruction : goal.invariant-loop-instruction
invariant-loop-instruction l = l.lines.items ≡ map (line_count (take l.instruction-index l.counted)) (range_with_len 1 l.rows)
