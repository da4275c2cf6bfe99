use Rattle.std.proofs.Common.{◌≡◌, drop}
use Rattle.bwhere.specs.Dues.{due_among}
use Rattle.bwhere.proofs.due.due_among.Given as goal

-- the line is found among the rest of the rows
abbrev pub invariant-loop-row : goal.invariant-loop-row
invariant-loop-row l = due_among l.first (drop l.row-index l.rows) l.left ≡ due_among l.first l.rows l.since
