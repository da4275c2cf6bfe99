use Rattle.std.proofs.Common.{◌≡◌, map, take}
use Rattle.bcount.specs.Tallies.{blank}
use Rattle.bcount.proofs.tallies.Tallies.new.Given as goal

-- no step was made in any of the functions so far
abbrev pub invariant-loop-entry : goal.invariant-loop-entry
invariant-loop-entry l = map (λ counts. counts.items) l.counts.items ≡ map blank (take l.entry-index l.entry-items)
