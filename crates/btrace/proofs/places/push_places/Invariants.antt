use Rattle.std.proofs.Common.{◌≡◌, ◌≤◌, ◌++◌, drop, map}
use Rattle.bmach.specs.Stops.{active_of}
use Rattle.btrace.specs.RowTexts.{callers_text, legend_of, places_text}
use Rattle.btrace.proofs.places.push_places.Given as goal

-- what is told so far, with what the calls from here on will add
abbrev pub invariant-loop-number : goal.invariant-loop-number
invariant-loop-number g l =
    (l.count ≤ l.number)
    × (l.fn.text ++ places_text (legend_of l.legend) l.stepper.store l.fn.call (map active_of l.stepper.below)
    ≡ l.text ++ callers_text (legend_of l.legend) l.stepper.store l.last l.count (map active_of (drop l.number l.stepper.below)))
