use Rattle.std.proofs.Common.{◌≡◌}
use Rattle.bcareful.specs.Marks.{marks_of}
use Rattle.bcareful.specs.Things.{atlas_of}
use Rattle.bcareful.proofs.Going.{IsOn}
use Rattle.bcareful.proofs.Steps.{IsCleanSo}
use Rattle.bcareful.proofs.watching.careful_steps.Given as goal

-- so many steps were made without a finding
abbrev pub invariant-loop-made : goal.invariant-loop-made
invariant-loop-made g l =
    IsOn (IsCleanSo (atlas_of l.fn.atlas) (marks_of l.marks)) l.fn.stepper l.made l.stepper (g.I.ByteIn.incoming l.fn.input) (g.I.ByteIn.incoming l.input) (g.O.ByteOut.outgoing l.fn.out) (g.O.ByteOut.outgoing l.out)
    × (g.I.ByteIn.lender l.input ≡ g.I.ByteIn.lender l.fn.input) × (g.O.ByteOut.lender l.out ≡ g.O.ByteOut.lender l.fn.out)
