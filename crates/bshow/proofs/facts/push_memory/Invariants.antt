use Rattle.std.proofs.Common.{◌≡◌, ◌++◌, codes}
use Rattle.std.specs.List.{flat_map, range_with_len}
use Rattle.bshow.specs.Facts.{memory_word}
use Rattle.bshow.proofs.facts.push_memory.Given as goal

abbrev pub invariant-loop-address : goal.invariant-loop-address
invariant-loop-address g l = l.text ≡ (l.fn.text ++ codes "[") ++ flat_map (memory_word l.stepper.store) (range_with_len 0 l.address)
