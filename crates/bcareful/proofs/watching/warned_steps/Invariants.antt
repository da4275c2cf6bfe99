use Rattle.std.proofs.Common.{◌≡◌}
use Rattle.bcareful.specs.Marks.{marks_of}
use Rattle.bcareful.specs.Things.{atlas_of}
use Rattle.bcareful.specs.Warned.{warnings_of}
use Rattle.btrace.specs.RowTexts.{legend_of}
use Rattle.bcareful.proofs.Going.{IsOn}
use Rattle.bcareful.proofs.WarnedSteps.{IsToldSo}
use Rattle.bcareful.proofs.watching.warned_steps.Given as goal

-- so many steps were made, and each place of a finding was told once
abbrev pub invariant-loop-made : goal.invariant-loop-made
invariant-loop-made g l =
    IsOn (IsToldSo (atlas_of l.fn.teller.atlas) (legend_of l.fn.teller.legend) l.fn.teller.source.now (marks_of l.marks) (warnings_of l.warnings)) l.fn.stepper l.made l.stepper (g.I.ByteIn.incoming l.fn.input) (g.I.ByteIn.incoming l.input) (g.O.ByteOut.outgoing l.fn.out) (g.O.ByteOut.outgoing l.out)
    × (g.I.ByteIn.lender l.input ≡ g.I.ByteIn.lender l.fn.input) × (g.O.ByteOut.lender l.out ≡ g.O.ByteOut.lender l.fn.out)
