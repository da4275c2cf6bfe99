use Rattle.std.proofs.Common.{ℕ, ◌+◌, ◌<◌, ◌≤◌, get_or, length}
use Rattle.btools.specs.declared.tables.FunctionEntry.{FunctionEntry}
use Rattle.btools.proofs.tables.Tables.position.Given as goal

-- the function is none of those before the place, nor of those after the size
abbrev pub invariant-loop-size : goal.invariant-loop-size
invariant-loop-size l = record {
  within : l.low + l.size ≤ length l.self.entries.items;
  before : (k : ℕ) (d : FunctionEntry) → k < l.low → (get_or l.self.entries.items k d).strings < l.strings;
  after : (k : ℕ) (d : FunctionEntry) → l.low + l.size ≤ k → k < length l.self.entries.items → l.strings < (get_or l.self.entries.items k d).strings;
}

abbrev pub decreases-loop-size : goal.decreases-loop-size
decreases-loop-size l = l.size
