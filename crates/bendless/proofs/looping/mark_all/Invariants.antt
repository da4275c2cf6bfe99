use Rattle.std.proofs.Common.{◌≡◌, ◌-◌, ◌≤◌}
use Rattle.std.specs.List.{range_with_len}
use Rattle.bendless.specs.Loops.{marked}
use Rattle.bendless.proofs.looping.mark_all.Given as goal

-- the addresses so far are marked
abbrev pub invariant-loop-address : goal.invariant-loop-address
invariant-loop-address l =
    (l.marks.items ≡ marked l.fn.marks.items (range_with_len l.addresses.start (l.address - l.addresses.start)))
    × (l.addresses.end ≤ l.addresses.start → l.address ≡ l.addresses.start)
