use Rattle.std.proofs.Common.{◌≡◌, ◌++◌, map, take}
use Rattle.bcareful.specs.Things.{atlas_of}
use Rattle.bcareful.specs.Marks.{value_mark}
use Rattle.bcareful.proofs.marks.push_values.Given as goal

-- the values so far are marked
abbrev pub invariant-loop-value : goal.invariant-loop-value
invariant-loop-value l =
    l.marks.items ≡ l.fn.marks.items ++ map (value_mark (atlas_of l.atlas) l.strings l.words) (take l.value-index l.values)
