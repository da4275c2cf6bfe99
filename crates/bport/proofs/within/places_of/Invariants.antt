use Rattle.std.proofs.Common.{◌≡◌, ◌++◌, drop}
use Rattle.bport.specs.Places.{places_of}
use Rattle.bport.specs.declared.within.Within.TheVariants as within
use Rattle.bport.proofs.within.places_of.Given as goal

abbrev pub invariant-loop-byte : goal.invariant-loop-byte
invariant-loop-byte l =
    l.places.items ++ places_of l.place (drop l.byte-index l.source) ≡ places_of within.Start l.source
