use Rattle.std.proofs.Common.{◌≡◌}
use Rattle.bwatch.proofs.Seen.{IsOn}
use Rattle.bwatch.proofs.watching.make_steps.Given as goal

-- so many steps were made and seen
abbrev pub invariant-loop-made : goal.invariant-loop-made
invariant-loop-made g l =
    IsOn (g.W.Onlooker.has_seen l.fn.onlooker l.onlooker) l.fn.stepper l.made l.stepper (g.I.ByteIn.incoming l.fn.input) (g.I.ByteIn.incoming l.input)
    × (g.I.ByteIn.lender l.input ≡ g.I.ByteIn.lender l.fn.input)
