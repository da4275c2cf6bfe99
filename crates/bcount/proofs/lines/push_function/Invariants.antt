use Rattle.std.proofs.Common.{◌≡◌, ◌++◌, drop, map}
use Rattle.std.specs.List.{enumerate_from}
use Rattle.std.specs.Prelude.{option_map}
use Rattle.btools.specs.ProgramLines.{lined_entry}
use Rattle.bcount.specs.Counts.{counted_at, counted_in}
use Rattle.bcount.proofs.lines.push_function.Given as goal

-- what is still to come
abbrev pub invariant-loop-place : goal.invariant-loop-place
invariant-loop-place l =
    l.fn.counted.items ++ counted_in l.rows (option_map lined_entry l.entry) l.counts
    ≡ l.counted.items ++ map (λ x. counted_at l.rows (option_map lined_entry l.entry) x.0 x.1) (enumerate_from l.place (drop l.place l.counts))
