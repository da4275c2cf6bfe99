use Rattle.std.proofs.Common.{◌≡◌, ◌++◌, drop}
use Rattle.bcareful.specs.Things.{atlas_of}
use Rattle.bcareful.specs.Marks.{data_marks}
use Rattle.bcareful.proofs.marks.push_definitions.Given as goal

-- what the definitions so far have not yet, those that are left have
abbrev pub invariant-loop-definition : goal.invariant-loop-definition
invariant-loop-definition l =
    l.words.items ++ data_marks (atlas_of l.atlas) l.address (drop l.definition-index l.atlas.program.now.definitions.items)
    ≡ l.fn.words.items ++ data_marks (atlas_of l.atlas) 7 l.atlas.program.now.definitions.items
