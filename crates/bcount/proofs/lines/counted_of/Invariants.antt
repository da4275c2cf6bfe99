use Rattle.std.proofs.Common.{◌≡◌, ◌++◌, drop}
use Rattle.btools.specs.ProgramLines.{lines_shown}
use Rattle.bcount.specs.Counts.{counted_of}
use Rattle.bcount.specs.Tallies.{tallies_of}
use Rattle.bcount.proofs.OnLines.{from_function}
use Rattle.bcount.proofs.lines.counted_of.Given as goal

-- what is still to come
abbrev pub invariant-loop-number : goal.invariant-loop-number
invariant-loop-number l =
    counted_of l.rows (lines_shown l.tables) (tallies_of l.tallies)
    ≡ l.counted.items ++ from_function l.rows (lines_shown l.tables) l.number (drop l.number (tallies_of l.tallies))
