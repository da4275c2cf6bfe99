use Rattle.std.proofs.Common.{◌≡◌, ◌++◌, take}
use Rattle.bword.specs.ByteEnds.{Writes}
use Rattle.bwatch.proofs.Telling.{whole}
use Rattle.bwatch.proofs.trail.Trail.tell.Given as goal

-- the text and so many of the rows were written
abbrev pub invariant-loop-index : goal.invariant-loop-index
invariant-loop-index g l =
    Writes (g.O.ByteOut.outgoing l.fn.out) (l.self.text ++ whole (take l.index l.self.last.items)) (g.O.ByteOut.outgoing l.out)
    × (g.O.ByteOut.lender l.out ≡ g.O.ByteOut.lender l.fn.out)
