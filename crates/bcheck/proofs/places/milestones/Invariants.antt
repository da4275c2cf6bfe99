use Rattle.std.proofs.Common.{◌≡◌, ◌<◌, drop, take, vec_items}
use Rattle.std.specs.List.{All}
use Rattle.blang.specs.Cut.{line_number_after}
use Rattle.bplaces.specs.Columns.{column_after}
use Rattle.bcheck.specs.Findings.{IsMilestone}
use Rattle.bplaces.specs.Units.{first_unit, units_after}
use Rattle.bcheck.proofs.places.milestones.Given as goal

abbrev pub invariant-loop-start : goal.invariant-loop-start
invariant-loop-start l =
    (l.line ≡ line_number_after 1 (take l.start l.source)) × (l.column ≡ column_after 1 (take l.start l.source)) × (0 < l.column)
    × (l.units ≡ units_after first_unit (take l.start l.source) (drop l.start l.source)) × All (IsMilestone l.source) (vec_items l.all)
