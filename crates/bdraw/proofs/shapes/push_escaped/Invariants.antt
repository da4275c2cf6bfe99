use Rattle.std.proofs.Common.{◌≡◌, ◌++◌, take}
use Rattle.bdraw.specs.Shapes.{escaped}
use Rattle.bdraw.proofs.shapes.push_escaped.Given as goal

abbrev pub invariant-loop-byte : goal.invariant-loop-byte
invariant-loop-byte l = l.text ≡ l.fn.text ++ escaped (take l.byte-index l.words)
