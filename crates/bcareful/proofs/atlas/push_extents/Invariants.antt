use Rattle.std.proofs.Common.{◌≡◌, [], ◌∷◌, ◌++◌, replicate}
use Rattle.blang.specs.Layout.{shape_of}
use Rattle.bcareful.specs.Things.{own_words}
use Rattle.bcareful.proofs.atlas.push_extents.Given as goal

-- the own words, and 1 for each other word so far
abbrev pub invariant-loop : goal.invariant-loop
invariant-loop l =
    l.extents.items ≡ l.fn.extents.items ++ (own_words (shape_of l.definition).kind (shape_of l.definition).values ∷ []) ++ replicate l.counter 1
