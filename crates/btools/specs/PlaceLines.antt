-- Promise: the line of each place of a code text: of its instructions and its initial values, one after another.
use Rattle.std.specs.Prelude.{◌≡◌, ℕ, ◌+◌, if◌then◌else◌, List, [], ◌∷◌, ◌++◌, length, codes, decimal, map, option_map}
use Rattle.std.specs.Prelude.{Option, MatchOption, Result, Ok, Err, unwrap_or}
use Rattle.std.specs.List.{range_with_len}
use Rattle.std.specs.Str.{bytes_eq}
use Rattle.bauthor.specs.LineFiles.{lines_read}
use Rattle.bauthor.specs.declared.place_line.PlaceLine.{PlaceLine}
use Rattle.bauthor.specs.declared.fault.LineWanted.{LineWanted}
use Rattle.bauthor.specs.declared.fault.LineWanted.TheVariants as wanted
use Rattle.bword.specs.ByteEnds.{most}
use Rattle.blang.specs.Lines.{size_of}
use Rattle.blang.specs.Text.{lines_of}
use Rattle.blang.specs.declared.code.Definition.{Definition}
use Rattle.blang.specs.declared.code.Definition.TheVariants as definition
use Rattle.btools.specs.SourceLines.{last_line, line_at}

-- a code text; the file of the lines that its places come from, if there is one, the source that has these lines, if it
-- is known, and its file of names, if there is one
pub record CodeText : Type 0 where
  pub code : List ℕ
  pub lines : Option (List ℕ)
  pub source : Option (List ℕ)
  pub names : Option (List ℕ)

-- the lines of a definition before its places: its header, and a function's targets and string words
abbrev pub lines_before_places : Definition → ℕ
lines_before_places (definition.Function f) = 1 + length f.targets + length f.strings
lines_before_places d = 1

-- the number of the line of each place of definitions that come after so many lines
abbrev pub place_lines : (before : ℕ) → List Definition → List ℕ
place_lines before [] = []
place_lines before (d ∷ ds) =
    range_with_len (before + lines_before_places d + 1) (size_of d) ++ place_lines (before + length (lines_of d)) ds

-- how many lines of a code text stand before its definitions
abbrev pub lines_before : (code : List ℕ) → ℕ
lines_before code = if bytes_eq (line_at code 1) (codes "B 2") then 1 else 0

-- the greatest number that a file of lines may have: that of the last line of the source, if it is known
abbrev pub last_in : (source : Option (List ℕ)) → ℕ
last_in source = unwrap_or (option_map last_line source) most

-- what a file of lines says of a code text of these definitions
abbrev pub places_read : (source : Option (List ℕ)) → (file : List ℕ) → List Definition
    → Result (List PlaceLine) (ℕ × LineWanted)
places_read source file ds = lines_read (last_in source) source file ds

-- The lines of the places of a code text of these definitions are what its file of lines says; without one, they are
-- those of the code text.
abbrev pub HasPlaceLines : CodeText → List Definition → (lines : List ℕ) → Type 0
HasPlaceLines c ds lines = MatchOption c.lines (lines ≡ place_lines (lines_before c.code) ds)
    (λ file. (places : List PlaceLine) × (places_read c.source file ds ≡ Ok places)
    × (lines ≡ map (λ p. p.line) places))

-- The columns of the places are those of its file of lines, 0 where that tells none. Without such a file there are
-- none.
abbrev pub HasPlaceColumns : CodeText → List Definition → (columns : List ℕ) → Type 0
HasPlaceColumns c ds columns = MatchOption c.lines (columns ≡ []) (λ file. (places : List PlaceLine)
    × (places_read c.source file ds ≡ Ok places) × (columns ≡ map (λ p. unwrap_or p.column 0) places))

-- This is the first wrong line of its file of lines, and what it has to be.
abbrev pub HasWrongLine : CodeText → List Definition → (number : ℕ) → LineWanted → Type 0
HasWrongLine c ds number w =
    MatchOption c.lines ⊥ (λ file. places_read c.source file ds ≡ Err (number, w))

-- what a line of a file of lines has to be
abbrev pub wanted_text : LineWanted → List ℕ
wanted_text (wanted.Number last name place) =
    codes "a number from 0 to " ++ decimal last ++ codes ", alone or with a column of it" ++ codes ", for place "
    ++ decimal place ++ codes " of " ++ name
wanted_text wanted.End = codes "its end"

-- what is told of a file of lines whose first wrong line has this number
abbrev pub unlined_line : (number : ℕ) → LineWanted → List ℕ
unlined_line number w =
    codes "error: line " ++ decimal number ++ codes " of the file of lines has to be " ++ wanted_text w ++ codes "\n"
