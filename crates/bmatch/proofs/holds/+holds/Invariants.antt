use Rattle.std.proofs.Common.{◌≡◌, ◌+◌, ◌*◌, ◌++◌, drop, length}
use Rattle.std.specs.List.{flat_map}
use Rattle.bmatch.specs.Holds.{holds_in}
use Rattle.bmatch.proofs.holds.+holds.Given as goal

abbrev pub decreases-holds : goal.decreases-holds
decreases-holds l = 3 * length l.claims.now

abbrev pub decreases-if_none_hold : goal.decreases-if_none_hold
decreases-if_none_hold l = 3 * length l.claims.now + 1

abbrev pub decreases-if_some_hold : goal.decreases-if_some_hold
decreases-if_some_hold l = 3 * length l.claims.now + 1

abbrev pub decreases-fits_and_holds : goal.decreases-fits_and_holds
decreases-fits_and_holds l = 3 * length l.more.now + 2

abbrev pub decreases-all_hold : goal.decreases-all_hold
decreases-all_hold l = 3 * length l.claims.now + 1

abbrev pub invariant-all_hold-loop-way : goal.invariant-all_hold-loop-way
invariant-all_hold-loop-way l =
    l.found.items ++ flat_map (holds_in l.site 0 l.claims) (drop l.way-index l.ways) ≡ l.initial.found.items ++ flat_map (holds_in l.site 0 l.claims) l.ways
