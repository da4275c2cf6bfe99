use Rattle.std.proofs.Common.{◌≡◌, ◌-◌, length}
use Rattle.bcode.proofs.StreamLaws.{InLine}
use Rattle.bcode.proofs.stream.read_line.Given as goal

abbrev pub invariant-loop-input : goal.invariant-loop-input
invariant-loop-input g l = InLine (g.I.ByteIn.incoming l.initial.input) l.line.items (g.I.ByteIn.incoming l.input) × (g.I.ByteIn.lender l.input ≡ g.I.ByteIn.lender l.initial.input)

abbrev pub decreases-loop-input : goal.decreases-loop-input
decreases-loop-input g l = 128 - length l.line.items
