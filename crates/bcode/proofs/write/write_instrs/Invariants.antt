use Rattle.std.proofs.Common.{take, map, ◌≡◌}
use Rattle.bcode.specs.Pages.{PageWritten}
use Rattle.blang.specs.Text.{joined, instr_line}
use Rattle.bcode.proofs.write.write_instrs.Given as goal

abbrev pub invariant-loop-instr : goal.invariant-loop-instr
invariant-loop-instr g l =
    PageWritten (g.O.ByteOut.outgoing l.initial.out) l.initial.page (joined (map instr_line (take l.instr-index l.code)))
    (g.O.ByteOut.outgoing l.out) l.page
    × (g.O.ByteOut.lender l.out ≡ g.O.ByteOut.lender l.initial.out)
