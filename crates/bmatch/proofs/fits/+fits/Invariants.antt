use Rattle.std.proofs.Common.{◌≡◌, ◌+◌, ◌-◌, ◌*◌, ◌++◌, length}
use Rattle.std.specs.List.{flat_map}
use Rattle.bmatch.specs.Fits.{ends_of, fits_in, rows_left}
use Rattle.bmatch.specs.declared.fits.TheConstants.{MOST_PASSED}
use Rattle.bmatch.proofs.fits.+fits.Given as goal

abbrev pub decreases-fits : goal.decreases-fits
decreases-fits l = 3 * length l.steps.now

abbrev pub decreases-fits_left : goal.decreases-fits_left
decreases-fits_left l = 3 * length l.more.now + 1

abbrev pub decreases-fits_both : goal.decreases-fits_both
decreases-fits_both l = 3 * length l.more.now + 2

abbrev pub decreases-fits_rows : goal.decreases-fits_rows
decreases-fits_rows l = 3 * length l.more.now + 1

abbrev pub decreases-passes : goal.decreases-passes
decreases-passes l = 3 * length l.more.now + 1

abbrev pub invariant-passes-loop : goal.invariant-passes-loop
invariant-passes-loop l =
    l.found.items ++ flat_map (λ e. fits_in l.sight 0 l.more l.span.begin e (rows_left l.left) l.binds) (ends_of l.sight.tree.rows.now (MOST_PASSED - l.counter) l.span.begin l.end)
    ≡ l.initial.found.items ++ flat_map (λ e. fits_in l.sight 0 l.more l.span.begin e (rows_left l.left) l.binds) (ends_of l.sight.tree.rows.now MOST_PASSED l.span.begin l.span.end)
