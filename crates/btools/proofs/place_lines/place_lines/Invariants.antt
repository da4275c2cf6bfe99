use Rattle.std.proofs.Common.{◌≡◌, ◌++◌, drop}
use Rattle.btools.specs.PlaceLines.{place_lines}
use Rattle.btools.proofs.place_lines.place_lines.Given as goal

-- the lines so far, and those of the definitions that are left
abbrev pub invariant-loop-definition : goal.invariant-loop-definition
invariant-loop-definition l = l.lines.items ++ place_lines l.before (drop l.definition-index l.definitions) ≡ place_lines l.opening l.definitions
