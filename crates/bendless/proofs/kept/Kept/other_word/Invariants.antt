use Rattle.std.proofs.Common.{◌≡◌, map, take}
use Rattle.std.specs.Prelude.{slice_index}
use Rattle.std.specs.List.{range_with_len}
use Rattle.bendless.proofs.kept.Kept.other_word.Given as goal

-- the words before this address are the same
abbrev pub invariant-loop-address : goal.invariant-loop-address
invariant-loop-address g l = take l.address l.self.words.items ≡ map (slice_index l.stepper.store) (range_with_len 0 l.address)
