use Rattle.std.proofs.Common.{◌≡◌, map}
use Rattle.std.specs.Prelude.{slice_index}
use Rattle.std.specs.List.{range_with_len}
use Rattle.bendless.proofs.kept.read_words.Given as goal

-- the words before this address were read
abbrev pub invariant-loop-address : goal.invariant-loop-address
invariant-loop-address g l = l.words.items ≡ map (slice_index l.stepper.store) (range_with_len 0 l.address)
