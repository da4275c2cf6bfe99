use Rattle.std.proofs.Common.{◌≡◌, None, map, take}
use Rattle.btools.specs.Functions.{function_named, placed_entry}
use Rattle.btools.proofs.tables.Tables.named.Given as goal

-- none of those so far has the name
abbrev pub invariant-loop-entry : goal.invariant-loop-entry
invariant-loop-entry l = function_named (map placed_entry (take l.entry-index l.entry-items)) l.name ≡ None
