use Rattle.std.proofs.Common.{◌≡◌, take}
use Rattle.std.specs.List.{flat_map}
use Rattle.bcheck.specs.Pieces.{filled_byte}
use Rattle.bcheck.proofs.words.filled.Given as goal

abbrev pub invariant-loop-byte : goal.invariant-loop-byte
invariant-loop-byte l = l.text ≡ flat_map (filled_byte l.given) (take l.byte-index l.bytes)
