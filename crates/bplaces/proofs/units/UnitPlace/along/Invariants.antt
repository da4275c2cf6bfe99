use Rattle.std.proofs.Common.{◌≡◌, drop, take}
use Rattle.bplaces.specs.Units.{units_after}
use Rattle.bplaces.proofs.units.UnitPlace.along.Given as goal

abbrev pub invariant-loop-index : goal.invariant-loop-index
invariant-loop-index l = l.units ≡ units_after l.fn.self (take l.index l.text) (drop l.index l.text)
