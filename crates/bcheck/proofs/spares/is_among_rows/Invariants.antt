use Rattle.std.proofs.Common.{◌≡◌, false, take}
use Rattle.std.specs.List.{list_any}
use Rattle.bcheck.specs.Spares.{is_row}
use Rattle.bcheck.proofs.spares.is_among_rows.Given as goal

abbrev pub invariant-loop-one : goal.invariant-loop-one
invariant-loop-one l = list_any (λ row. is_row l.old l.new (row.0.now, row.1.now)) (take l.one-index l.rows) ≡ false
