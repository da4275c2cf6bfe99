use Rattle.std.specs.Prelude.{◌≡◌}
use Rattle.brun.proofs.MigrateSteps.{Passing}
use Rattle.brun.proofs.migrating.copy_definitions.Given as goal

abbrev pub invariant-definitions : goal.invariant-definitions
invariant-definitions g l =
    Passing l.fn.reader (g.O.ByteOut.outgoing l.fn.out) l.reader (g.O.ByteOut.outgoing l.out) × (g.O.ByteOut.lender l.out ≡ g.O.ByteOut.lender l.fn.out)

abbrev pub decreases-definitions : goal.decreases-definitions
decreases-definitions g l = l.reader.ahead.end.bound
