-- Promise: what a file of lines says of the places of a code text, or its first wrong line. The places are the
-- instructions and the initial values of its definitions, one after another.
use Rattle.std.specs.Prelude.{◌≡◌, ℕ, zero, suc, ◌+◌, ◌-◌, ◌==◌, ◌||◌, nat_lt, if◌then◌else◌, List, [], ◌∷◌, decimal}
use Rattle.std.specs.Prelude.{Option, Some, None, Result, Err, drop, flat_map, get_or, length, min, option_map}
use Rattle.std.specs.Prelude.{position, take}
use Rattle.std.specs.Str.{bytes_eq}
use Rattle.std.specs.Str.Parse.{digits_value}
use Rattle.bword.specs.ByteEnds.{most}
use Rattle.blang.specs.Layout.{shape_of}
use Rattle.blang.specs.Lines.{size_of}
use Rattle.blang.specs.declared.code.Definition.{Definition}
use Rattle.bauthor.specs.AuthorFiles.{lines_of, read_from}
use Rattle.bauthor.specs.declared.place_line.PlaceLine.{PlaceLine}
use Rattle.bauthor.specs.declared.fault.LineFault.{LineFault}
use Rattle.bauthor.specs.declared.fault.LineFault.TheVariants as fault
use Rattle.bauthor.specs.declared.fault.LineWanted.{LineWanted}
use Rattle.bauthor.specs.declared.fault.LineWanted.TheVariants as wanted

-- numbers up to the last one for so many places of a definition, from one on
abbrev pub places_from : (last : ℕ) → (name : List ℕ) → (first count : ℕ) → List LineWanted
places_from last name first zero = []
places_from last name first (suc n) = wanted.Number last name first ∷ places_from last name (first + 1) n

abbrev pub places_wanted : (last : ℕ) → Definition → List LineWanted
places_wanted last d = places_from last (shape_of d).name 0 (size_of d)

abbrev pub lines_wanted : (last : ℕ) → List Definition → List LineWanted
lines_wanted last ds = flat_map (places_wanted last) ds

-- a number of 64 bits up to the last one, in decimal digits without needless zeros
abbrev pub number_read : (last : ℕ) → List ℕ → Option ℕ
number_read last line =
    let n = digits_value 10 line in
    if nat_lt (min last most) n then None else (if bytes_eq (decimal n) line then Some n else None)

-- how many columns a line of the source has: its bytes, and one after them; as many as there can be, where the lines of
-- the source aren't known
abbrev pub columns_in : (source : Option (List (List ℕ))) → (line : ℕ) → ℕ
columns_in None line = most
columns_in (Some lines) line = length (get_or lines (line - 1) []) + 1

-- A number of a line alone, or one with a column of that line. Line 0, which is none, has no column.
abbrev pub whole_line : (line : ℕ) → PlaceLine
whole_line line = record { line = line; column = None }

abbrev pub in_column : (line : ℕ) → (column : Option ℕ) → Option PlaceLine
in_column line None = None
in_column line (Some column) =
    if line == 0 || column == 0 then None else Some (record { line = line; column = Some column })

abbrev pub columned : (source : Option (List (List ℕ))) → (line : Option ℕ) → (text : List ℕ) → Option PlaceLine
columned source None text = None
columned source (Some line) text = in_column line (number_read (columns_in source line) text)

-- a text whose first blank is there, if it has one
abbrev pub place_before : (last : ℕ) → (source : Option (List (List ℕ))) → (text : List ℕ) → (blank : Option ℕ)
    → Option PlaceLine
place_before last source text None = option_map whole_line (number_read last text)
place_before last source text (Some blank) =
    columned source (number_read last (take blank text)) (drop (blank + 1) text)

abbrev pub place_read : (last : ℕ) → (source : Option (List (List ℕ))) → (text : List ℕ) → Option PlaceLine
place_read last source text = place_before last source text (position (λ b. b == 32) text)

-- how a line is read, where this is wanted, of a source of these lines
abbrev pub line_read : (source : Option (List (List ℕ))) → LineWanted → List ℕ → Option PlaceLine
line_read source (wanted.Number last name place) text = place_read last source text
line_read source wanted.End text = None

-- what a file says of these definitions, where no line is above the last one of the source; or the number of its first
-- wrong line, and what it has to be
abbrev pub lines_read : (last : ℕ) → (source : Option (List ℕ)) → (file : List ℕ) → List Definition
    → Result (List PlaceLine) (ℕ × LineWanted)
lines_read last source file ds =
    read_from (line_read (option_map lines_of source)) wanted.End 1 (lines_wanted last ds) (lines_of file)

-- This fault was found, or memory was refused.
abbrev pub Fails : LineFault → Result (List PlaceLine) (ℕ × LineWanted) → Type 0
Fails fault.Memory read = Unit {0}
Fails (fault.Line number w) read = read ≡ Err (number, w)
