-- Inner words: the counts of lines as they are written.
use Rattle.std.specs.Prelude.{◌≡◌, ℕ, ◌+◌, ◌-◌, ◌==◌, ◌&&◌, Bool, List, [], ◌++◌, Option, Some, None, codes, count_by}
use Rattle.std.specs.Prelude.{decimal, get_or, is_some, length, refl, replicate, if◌then◌else◌}
use Rattle.std.specs.List.{flat_map, range_with_len}
use Rattle.bsources.specs.Files.{Files, Line, beyond_first, own_line}
use Rattle.btools.specs.Columns.{right}
use Rattle.btools.specs.Quoting.{file_text, json_text}
use Rattle.btools.specs.SourceLines.{source_lines}
use Rattle.bcount.specs.Marks.{is_marked, no_code}
use Rattle.bcount.specs.SourceLines.{beside_text}
use Rattle.bcount.specs.declared.lines.LineCount.{LineCount}
use Rattle.bcount.specs.declared.table.CountStyle.{CountStyle}
use Rattle.bcount.specs.declared.table.CountStyle.TheVariants as style
use Rattle.bcount.specs.declared.table.TheConstants.{HEADING}

-- the columns of a table
table_heading : HEADING.now ≡ codes "    line         times         steps  source\n"
table_heading = refl

abbrev pub heading_of : CountStyle → List ℕ
heading_of style.Table = HEADING.now
heading_of style.Json = []

-- the name of a file after the first one, before its first line
abbrev pub file_row : Option Line → List ℕ
file_row None = []
file_row (Some at) = if at.line == 1 then file_text at.file ++ codes "\n" else []

-- how often the first instruction of a line was made, and how many steps its code took, if it has code
abbrev pub counts_text : Option ℕ → (steps : ℕ) → List ℕ
counts_text None steps = replicate 28 32
counts_text (Some times) steps = right 14 (decimal times) ++ right 14 (decimal steps)

-- the mark of a line, its number and its counts
abbrev pub cells_text : Bool → (line : ℕ) → LineCount → List ℕ
cells_text is_marked line c =
    (if is_marked then codes ">" else codes " ") ++ right 7 (decimal line) ++ counts_text c.times c.steps

-- the end of an object of JSON
abbrev pub times_and_steps : (times steps : ℕ) → List ℕ
times_and_steps times steps =
    codes ",\"times\":" ++ decimal times ++ codes ",\"steps\":" ++ decimal steps ++ codes "}\n"

-- a line that has code, as an object of JSON
abbrev pub counts_object : Line → Option ℕ → (steps : ℕ) → List ℕ
counts_object at None steps = []
counts_object at (Some times) steps =
    codes "{\"file\":" ++ json_text at.file ++ codes ",\"line\":" ++ decimal at.line ++ times_and_steps times steps

abbrev pub object_text : Line → LineCount → List ℕ
object_text at c = counts_object at c.times c.steps

-- the row of a line: what its code did, whether it is marked, and its bytes
abbrev pub row_text : CountStyle → Files → (line : ℕ) → LineCount → Bool → (bytes : List ℕ) → List ℕ
row_text style.Json files line c marked bytes = object_text (own_line files line) c
row_text style.Table files line c marked bytes =
    file_row (beyond_first files line) ++ cells_text marked (own_line files line).line c ++ beside_text bytes
    ++ codes "\n"

-- the row of the line that comes after so many
abbrev pub row_after : CountStyle → Files → (source : List ℕ) → List LineCount → (index : ℕ) → List ℕ
row_after style files source lines index =
    row_text style files (index + 1) (get_or lines index no_code) (is_marked lines index)
    (get_or (source_lines source) index [])

-- what code that comes from no line did, if there is some
abbrev pub none_row : CountStyle → Bool → Option ℕ → (steps : ℕ) → List ℕ
none_row s marked None steps = []
none_row style.Table marked (Some times) steps =
    (if marked then codes ">   none" else codes "    none") ++ counts_text (Some times) steps
    ++ codes "  code that comes from no line\n"
none_row style.Json marked (Some times) steps = codes "{\"line\":0" ++ times_and_steps times steps

abbrev pub none_text : CountStyle → Bool → LineCount → List ℕ
none_text style marked c = none_row style marked c.times c.steps

abbrev pub total_of : CountStyle → (made : ℕ) → List ℕ
total_of style.Table made = codes "   total" ++ right 28 (decimal made) ++ codes "\n"
total_of style.Json made = []

-- how many lines have code
abbrev pub lines_with_code : List LineCount → ℕ
lines_with_code lines = count_by (λ c. is_some c.times) lines

-- what is said of a program of B whose code is all on one line
abbrev pub hint : List ℕ
hint = codes "  hint: all code is on one line; b format FILE gives each statement its own\n"

abbrev pub hint_of : CountStyle → (is_b : Bool) → List LineCount → List ℕ
hint_of style.Table is_b lines = if is_b && lines_with_code lines == 1 then hint else []
hint_of style.Json is_b lines = []

-- a row of each line, in order, that of code that comes from none, how many steps were made, and perhaps the hint
abbrev pub table_text : CountStyle → (is_b : Bool) → Files → (source : List ℕ) → List LineCount → (made : ℕ) → List ℕ
table_text style is_b files source lines made =
    heading_of style ++ flat_map (row_after style files source lines) (range_with_len 0 (length lines - 1))
    ++ none_text style (is_marked lines (length lines - 1)) (get_or lines (length lines - 1) no_code)
    ++ total_of style made ++ hint_of style is_b lines
