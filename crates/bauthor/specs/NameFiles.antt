-- Promise: what a file of names says of the definitions of a code text, or its first wrong line.
use Rattle.std.specs.Prelude.{◌≡◌, ℕ, zero, suc, ◌+◌, if◌then◌else◌, List, [], ◌∷◌, ◌++◌}
use Rattle.std.specs.Prelude.{Option, Some, None, Result, Err, flat_map, length}
use Rattle.blang.specs.declared.code.Definition.{Definition}
use Rattle.blang.specs.declared.code.Definition.TheVariants as definition
use Rattle.bauthor.specs.AuthorFiles.{lines_of, read_from}
use Rattle.bauthor.specs.NameLines.{line_read, suits}
use Rattle.bauthor.specs.declared.line.NameLine.{NameLine}
use Rattle.bauthor.specs.declared.fault.NameFault.{NameFault}
use Rattle.bauthor.specs.declared.fault.NameFault.TheVariants as fault
use Rattle.bauthor.specs.declared.fault.Wanted.{Wanted}
use Rattle.bauthor.specs.declared.fault.Wanted.TheVariants as wanted

-- so many words of a frame from one on, and so many labels
abbrev pub words_from : (function : List ℕ) → (first count : ℕ) → List Wanted
words_from function first zero = []
words_from function first (suc n) = wanted.Word function first ∷ words_from function (first + 1) n

abbrev pub labels_from : (function : List ℕ) → (first count : ℕ) → List Wanted
labels_from function first zero = []
labels_from function first (suc n) = wanted.Label function first ∷ labels_from function (first + 1) n

-- the lines of a function: its own, one for each word of its frame, and one for each of its labels
abbrev pub parts_wanted : (function : List ℕ) → (frame labels : ℕ) → List Wanted
parts_wanted function frame labels =
    wanted.Function function ∷ words_from function 0 frame ++ labels_from function 0 labels

abbrev pub function_wanted : Definition → List Wanted
function_wanted (definition.Function f) = parts_wanted f.name f.frame (length f.targets)
function_wanted d = []

abbrev pub names_wanted : List Definition → List Wanted
names_wanted ds = flat_map function_wanted ds

-- a line that was read, if it is what is wanted
abbrev pub suiting : Wanted → Option NameLine → Option NameLine
suiting w None = None
suiting w (Some l) = if suits w l then Some l else None

-- how a line is read, where this is wanted
abbrev pub name_read : Wanted → List ℕ → Option NameLine
name_read w line = suiting w (line_read line)

-- what a file says of these definitions; or the number of its first wrong line, and what it has to be
abbrev pub names_read : (file : List ℕ) → List Definition → Result (List NameLine) (ℕ × Wanted)
names_read file ds = read_from name_read wanted.End 1 (names_wanted ds) (lines_of file)

-- This fault was found, or memory was refused.
abbrev pub Fails : NameFault → Result (List NameLine) (ℕ × Wanted) → Type 0
Fails fault.Memory read = Unit {0}
Fails (fault.Line number w) read = read ≡ Err (number, w)
