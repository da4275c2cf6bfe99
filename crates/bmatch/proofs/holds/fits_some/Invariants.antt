use Rattle.std.proofs.Common.{◌≡◌, ◌-◌, ◌++◌}
use Rattle.std.specs.List.{flat_map, range_with_len}
use Rattle.bmatch.specs.Holds.{scope_span, some_at}
use Rattle.bmatch.proofs.holds.fits_some.Given as goal

abbrev pub invariant-loop-index : goal.invariant-loop-index
invariant-loop-index l =
    l.found.items ++ flat_map (some_at l.site l.sought l.binds) (range_with_len l.index (l.index-end - l.index))
    ≡ l.initial.found.items ++ flat_map (some_at l.site l.sought l.binds)
    (range_with_len (scope_span l.site l.sought.scope l.binds).begin ((scope_span l.site l.sought.scope l.binds).end - (scope_span l.site l.sought.scope l.binds).begin))
