use Rattle.std.proofs.Common.{◌≡◌, length, ◌-◌}
use Rattle.bemit.specs.Trails.{padded}
use Rattle.bemit.proofs.line_table.fill.Given as goal

abbrev pub invariant-loop-lines : goal.invariant-loop-lines
invariant-loop-lines l = padded l.count l.line l.lines.items ≡ padded l.count l.line l.fn.lines.items

abbrev pub decreases-loop-lines : goal.decreases-loop-lines
decreases-loop-lines l = l.count - length l.lines.items
