use Rattle.std.proofs.Common.{◌≡◌, drop, take}
use Rattle.blang.specs.Cut.{line_number_after}
use Rattle.bplaces.specs.Columns.{column_after}
use Rattle.bplaces.specs.Units.{first_unit, units_after}
use Rattle.bnaming.proofs.places.Mark.to.Given as goal

abbrev pub invariant-loop-index : goal.invariant-loop-index
invariant-loop-index l =
    (l.line ≡ line_number_after 1 (take l.index l.source)) × (l.column ≡ column_after 1 (take l.index l.source))
    × (l.units ≡ units_after first_unit (take l.index l.source) (drop l.index l.source))
