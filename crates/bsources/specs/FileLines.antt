-- Promise: a source in several files, and the file in which each of its lines lies.
use Rattle.std.specs.Prelude.{ℕ, ◌+◌, ◌-◌, ◌==◌, nat_le, if◌then◌else◌, List, [], ◌∷◌, ◌++◌, map, flat_map, count_by}
use Rattle.std.specs.Prelude.{Option, Some, None}
use Rattle.bsources.specs.declared.files.FileLine.{FileLine}
use Rattle.bsources.specs.declared.files.SourceFile.{SourceFile}
use Rattle.bsources.specs.declared.following.LaterFile.{LaterFile}

-- the bytes of several texts: the first one, and each other one after a newline
abbrev pub following : List (List ℕ) → List ℕ
following texts = flat_map (λ text. 10 ∷ text) texts

abbrev pub joined : (first : List ℕ) → (rest : List (List ℕ)) → List ℕ
joined first rest = first ++ following rest

-- a newline ends a line, and after the last one there is a line, too
abbrev pub lines_in : List ℕ → ℕ
lines_in text = count_by (λ b. b == 10) text + 1

-- a file: its name, and how many lines it has
pub record File : Type 0 where
  pub name : List ℕ
  pub lines : ℕ

abbrev pub file_of : (name text : List ℕ) → File
file_of name text = record { name = name; lines = lines_in text }

-- the files of a source, of which one is the first
pub record Files : Type 0 where
  pub first : File
  pub rest : List File

-- a line of a file
pub record Line : Type 0 where
  pub file : List ℕ
  pub line : ℕ

-- A line of the whole lies in the first file, unless that has fewer lines and another file comes after it.
abbrev pub own_line_among : File → List File → ℕ → Line
own_line_among file [] line = record { file = file.name; line = line }
own_line_among file (next ∷ rest) line =
    if nat_le line file.lines then record { file = file.name; line = line }
    else own_line_among next rest (line - file.lines)

abbrev pub own_line : Files → ℕ → Line
own_line files line = own_line_among files.first files.rest line

-- the same, if it isn't a line of the first file
abbrev pub beyond_first_among : File → List File → ℕ → Option Line
beyond_first_among file [] line = None
beyond_first_among file (next ∷ rest) line =
    if nat_le line file.lines then None else Some (own_line_among next rest (line - file.lines))

abbrev pub beyond_first : Files → ℕ → Option Line
beyond_first files line = beyond_first_among files.first files.rest line

-- the same among files that follow the first one, if there are some
abbrev pub line_among : List File → ℕ → Option Line
line_among [] line = None
line_among (file ∷ rest) line = Some (own_line_among file rest line)

-- a file with its bytes
pub record NamedText : Type 0 where
  pub name : List ℕ
  pub text : List ℕ

abbrev pub file_in : NamedText → File
file_in it = file_of it.name it.text

-- the files that follow the first one, and their bytes
pub record Followed : Type 0 where
  pub text : List ℕ
  pub files : List File

abbrev pub followed : List NamedText → Followed
followed texts = record { text = following (map (λ it. it.text) texts); files = map file_in texts }

-- what the types of the code are of these
abbrev pub file_shown : SourceFile → File
file_shown file = record { name = file.name.now; lines = file.lines }

abbrev pub later_shown : LaterFile → File
later_shown it = file_shown it.file

abbrev pub line_shown : FileLine → Line
line_shown at = record { file = at.file.now; line = at.line }
