-- Promise: the line that tells in which file the fault of a source in several files lies.
use Rattle.std.specs.Prelude.{ℕ, List, [], ◌++◌, codes, decimal, Option, Some, None}
use Rattle.blang.specs.Compiles.{line_of}
use Rattle.blang.specs.declared.token.Diagnostic.{Diagnostic}
use Rattle.bsources.specs.Files.{Files, Line, beyond_first}
use Rattle.btools.specs.Quoting.{file_text}

abbrev pub place_line : Line → List ℕ
place_line at = codes "at     line " ++ decimal at.line ++ codes " of " ++ file_text at.file ++ codes "\n"

-- the line of a place, if there is one
abbrev pub place_text : Option Line → List ℕ
place_text None = []
place_text (Some at) = place_line at

-- the line of a fault, and then that of its place, if it isn't in the first file
abbrev pub fault_lines : Files → Diagnostic → List ℕ
fault_lines files d = line_of d ++ place_text (beyond_first files d.line)
