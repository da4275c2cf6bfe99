use Rattle.std.proofs.Common.{◌≡◌, drop}
use Rattle.bmatch.specs.Asking.{has_c_escape}
use Rattle.bmatch.proofs.asking.has_c_escape.Given as goal

abbrev pub invariant-loop-byte : goal.invariant-loop-byte
invariant-loop-byte l = has_c_escape l.before (drop l.byte-index l.bytes) ≡ has_c_escape 0 l.bytes
