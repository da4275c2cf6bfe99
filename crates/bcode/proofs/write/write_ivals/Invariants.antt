use Rattle.std.proofs.Common.{take, map, ◌≡◌}
use Rattle.bcode.specs.Pages.{PageWritten}
use Rattle.blang.specs.Text.{joined, ival_line}
use Rattle.bcode.proofs.write.write_ivals.Given as goal

abbrev pub invariant-loop-value : goal.invariant-loop-value
invariant-loop-value g l =
    PageWritten (g.O.ByteOut.outgoing l.initial.out) l.initial.page (joined (map ival_line (take l.value-index l.values)))
    (g.O.ByteOut.outgoing l.out) l.page
    × (g.O.ByteOut.lender l.out ≡ g.O.ByteOut.lender l.initial.out)
