use Rattle.std.proofs.Common.{◌≡◌, drop, map}
use Rattle.bmach.specs.Stops.{active_of}
use Rattle.bcareful.specs.Things.{atlas_of}
use Rattle.bcareful.specs.Tellings.{holder}
use Rattle.bcareful.proofs.naming.holder.Given as goal

-- none of the calls so far has the word
abbrev pub invariant-loop-number : goal.invariant-loop-number
invariant-loop-number g l =
    holder (atlas_of l.atlas) (drop l.number (map active_of l.stepper.below)) l.address
    ≡ holder (atlas_of l.atlas) (map active_of l.stepper.below) l.address
