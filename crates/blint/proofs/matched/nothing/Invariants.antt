use Rattle.std.proofs.Common.{◌≡◌, replicate, None}
use Rattle.blint.proofs.matched.nothing.Given as goal

abbrev pub invariant-loop : goal.invariant-loop
invariant-loop l = l.firsts.items ≡ replicate l.counter None
