use Rattle.std.proofs.Common.{◌≡◌, ◌++◌, take}
use Rattle.btools.specs.Quoting.{file_text}
use Rattle.btools.proofs.quoting.push_file.Given as goal

abbrev pub invariant-loop-byte : goal.invariant-loop-byte
invariant-loop-byte l = l.text ≡ l.fn.text ++ file_text (take l.byte-index l.name)
