use Rattle.std.proofs.Common.{◌≡◌, take}
use Rattle.bendless.specs.Loops.{marked}
use Rattle.bendless.proofs.looping.mark_each.Given as goal

-- the addresses so far are marked
abbrev pub invariant-loop-address : goal.invariant-loop-address
invariant-loop-address l = l.marks.items ≡ marked l.fn.marks.items (take l.address-index l.addresses)
