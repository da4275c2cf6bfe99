use Rattle.std.proofs.Common.{◌≡◌, ◌≤◌, ◌+◌, ◌-◌, ◌++◌}
use Rattle.std.specs.List.{range_with_len}
use Rattle.btools.proofs.place_lines.push_numbers.Given as goal

-- the numbers so far
abbrev pub invariant-loop-number : goal.invariant-loop-number
invariant-loop-number l = record {
  from : l.first ≤ l.number;
  to : l.number ≤ l.first + l.count;
  lines : l.lines.items ≡ l.fn.lines.items ++ range_with_len l.first (l.number - l.first);
}
