use Rattle.std.proofs.Common.{◌≡◌, ◌+◌, ℕ}
use Rattle.bsession.specs.Stops.{GoesBy, Walks, stops_shown}
use Rattle.bsession.proofs.session.Session.continue_to.Given as goal

-- the steps that are no longer left were made, and no stop was between
abbrev pub invariant-loop-left : goal.invariant-loop-left
invariant-loop-left l =
    (made : ℕ) × (made + l.left ≡ l.steps) × Walks (stops_shown l.stops) l.fn.self l.self made × GoesBy (stops_shown l.stops) made l.self

abbrev pub decreases-loop-left : goal.decreases-loop-left
decreases-loop-left l = l.left
