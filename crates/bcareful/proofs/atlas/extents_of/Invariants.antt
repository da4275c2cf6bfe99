use Rattle.std.proofs.Common.{◌≡◌, ◌++◌, replicate, take}
use Rattle.std.specs.List.{flat_map}
use Rattle.bcareful.specs.Things.{definition_extents}
use Rattle.bcareful.proofs.atlas.extents_of.Given as goal

-- those of the definitions so far are there
abbrev pub invariant-loop-definition : goal.invariant-loop-definition
invariant-loop-definition l =
    l.extents.items ≡ replicate 7 1 ++ flat_map definition_extents (take l.definition-index l.definitions)
