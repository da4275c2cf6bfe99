use Rattle.std.proofs.Common.{◌≡◌, ◌≤◌, ◌+◌, length, map}
use Rattle.std.specs.Prelude.{find, sum_by}
use Rattle.blang.specs.Layout.{shape_of, size_of}
use Rattle.bhost.specs.Symbols.{answers, defined_from, defined_in}
use Rattle.bhost.proofs.symbols.entry_for.Given as goal

-- what is found is among the definitions that are left, which fit into memory from there on
abbrev pub invariant-loop-rest : goal.invariant-loop-rest
invariant-loop-rest l = record {
  found : find (answers l.query) (defined_from l.address l.rest l.frames l.lines l.columns) ≡ find (answers l.query) (defined_in l.program);
  fits : l.address + sum_by size_of (map shape_of l.rest) ≤ 65536;
}

abbrev pub decreases-loop-rest : goal.decreases-loop-rest
decreases-loop-rest l = length l.rest
