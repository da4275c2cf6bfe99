use Rattle.std.proofs.Common.{◌≡◌, ◌<◌, length}
use Rattle.bcode.specs.Reading.{number_at, number_from}
use Rattle.bcode.proofs.parts.number.Given as goal

abbrev pub invariant-loop-byte : goal.invariant-loop-byte
invariant-loop-byte l = (number_from l.end l.below l.value l.rest ≡ number_at l.end l.below l.fn.text) × (l.value < 65536)

abbrev pub decreases-loop-byte : goal.decreases-loop-byte
decreases-loop-byte l = length l.rest
