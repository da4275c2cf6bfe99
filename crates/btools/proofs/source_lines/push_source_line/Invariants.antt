use Rattle.std.proofs.Common.{◌≡◌, ◌++◌, map, take}
use Rattle.btools.specs.SourceLines.{plain_byte}
use Rattle.btools.proofs.source_lines.push_source_line.Given as goal

abbrev pub invariant-loop-byte : goal.invariant-loop-byte
invariant-loop-byte l = l.text ≡ l.fn.text ++ map plain_byte (take l.byte-index l.byte-items)
