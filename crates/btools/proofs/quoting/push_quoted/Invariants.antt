use Rattle.std.proofs.Common.{◌≡◌, ◌++◌, codes, take}
use Rattle.std.specs.List.{flat_map}
use Rattle.btools.specs.Quoting.{json_byte}
use Rattle.btools.proofs.quoting.push_quoted.Given as goal

abbrev pub invariant-loop-byte : goal.invariant-loop-byte
invariant-loop-byte l = l.text ≡ l.fn.text ++ codes "\"" ++ flat_map json_byte (take l.byte-index l.words)
