use Rattle.std.proofs.Common.{◌≡◌, ◌∷◌, map, take}
use Rattle.bmach.specs.Stops.{active_of}
use Rattle.bdraw.proofs.scene.calls_of.Given as goal

abbrev pub invariant-loop-number : goal.invariant-loop-number
invariant-loop-number g l = l.drawn.items ≡ l.fn.running ∷ take l.number (map active_of l.stepper.below)
