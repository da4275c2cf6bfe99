use Rattle.std.proofs.Common.{◌≡◌, ◌++◌, take}
use Rattle.bshow.specs.Escapes.{escaped}
use Rattle.bshow.proofs.escapes.push_escaped.Given as goal

abbrev pub invariant-loop-byte : goal.invariant-loop-byte
invariant-loop-byte l = l.text ≡ l.fn.text ++ escaped (take l.byte-index l.bytes)
