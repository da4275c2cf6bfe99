-- Inner words: the rows of a listing.
use Rattle.std.specs.Prelude.{◌≡◌, ℕ, zero, suc, ◌+◌, ◌%◌, ◌==◌, Bool, false, true, List, [], ◌∷◌, ◌++◌, codes}
use Rattle.std.specs.Prelude.{decimal, drop, get_or}
use Rattle.std.specs.Prelude.{map, refl, take, Option, Some, None, if◌then◌else◌}
use Rattle.std.specs.Char.{is_ascii_whitespace}
use Rattle.std.specs.List.{enumerate_from, flat_map, prefix_len, slice_get}
use Rattle.blang.specs.Layout.{shape_of, words_before_strings}
use Rattle.blang.specs.Text.{header_line, instr_line, ival_line, string_line, target_line}
use Rattle.blang.specs.declared.code.Definition.{Definition}
use Rattle.blang.specs.declared.code.Definition.TheVariants as definition
use Rattle.blang.specs.declared.code.Instr.{Instr}
use Rattle.blang.specs.declared.code.Instr.TheVariants as instr
use Rattle.blang.specs.declared.code.Ival.{Ival}
use Rattle.blist.specs.declared.rows.CodeSpot.{CodeSpot}
use Rattle.blist.specs.declared.rows.CodeSpot.TheVariants as spot
use Rattle.blist.specs.declared.rows.Named.{Named}
use Rattle.blist.specs.declared.rows.Named.TheVariants as named
use Rattle.blist.specs.declared.rows.TheConstants.{CODE_WIDTH, SOURCE_WIDTH}
use Rattle.btools.specs.Characters.{is_printable, shown_word}
use Rattle.btools.specs.Columns.{left, right, without_newline}
use Rattle.btools.specs.FrameNames.{frame_seen, name_shown}
use Rattle.btools.specs.SourceLines.{trimmed}
use Rattle.btools.specs.declared.names.Frame.{Frame}

-- how wide the columns of code and of the source are
column_widths : CODE_WIDTH ∷ SOURCE_WIDTH ∷ [] ≡ 13 ∷ 39 ∷ []
column_widths = refl

-- where a line of code lies: nowhere, at a place of its function, or at an address
abbrev pub spot_text : CodeSpot → List ℕ
spot_text spot.Nowhere = []
spot_text (spot.Place n) = decimal n
spot_text (spot.Address n) = codes "@" ++ decimal n

-- the number of the line of the source that it comes from, if it has one
abbrev pub number_text : Option ℕ → List ℕ
number_text None = []
number_text (Some n) = decimal n

-- what stands before a line of code: both, each at the right of a column of six, and two blanks
abbrev pub margin_text : CodeSpot → Option ℕ → List ℕ
margin_text s number = right 6 (spot_text s) ++ right 6 (number_text number) ++ codes "  "

-- a byte of a source; a blank for a tab, and `.` for what can't be printed
abbrev pub column_byte : ℕ → ℕ
column_byte b = if b == 9 then 32 else (if is_printable b then b else 46)

-- as much of a line of a source as its column has room for
abbrev pub source_column : List ℕ → List ℕ
source_column line = map column_byte (take SOURCE_WIDTH line)

abbrev pub named_text : Named → List ℕ
named_text named.Nothing = []
named_text (named.Name name) = name
named_text (named.First name) = name ++ codes "[0]"
named_text (named.Characters word) = shown_word word

-- a line of code, of the source and a name in their columns, or without the name
abbrev pub named_columns : (code source name : List ℕ) → List ℕ
named_columns code source name =
    left CODE_WIDTH code ++ codes " " ++ left SOURCE_WIDTH (source_column source) ++ codes " " ++ name

abbrev pub unnamed_columns : (code source : List ℕ) → List ℕ
unnamed_columns code [] = code
unnamed_columns code (b ∷ bs) = left CODE_WIDTH code ++ codes " " ++ source_column (b ∷ bs)

abbrev pub columns_text : (code source : List ℕ) → Named → List ℕ
columns_text code source named.Nothing = unnamed_columns code source
columns_text code source name = named_columns code source (named_text name)

-- a row: where a line of code lies and the number of its line of the source, the line, and what stands beside it
abbrev pub row_text : CodeSpot → (number : Option ℕ) → (line source : List ℕ) → Named → List ℕ
row_text s number line source name =
    margin_text s number ++ columns_text (without_newline line) source name ++ codes "\n"

-- the rows of items, each by its number
abbrev pub rows_of : {A : Type 0} → (ℕ → A → List ℕ) → List A → List ℕ
rows_of row xs = flat_map (λ x. row x.0 x.1) (enumerate_from 0 xs)

-- Initial values and string words lie in words of their own, from an address on.
abbrev pub word_spot : (first index : ℕ) → CodeSpot
word_spot first index = spot.Address ((first + index) % 65536)

abbrev pub value_rows : (first : ℕ) → (lines : List ℕ) → List Ival → List ℕ
value_rows first lines values =
    rows_of (λ i value. row_text (word_spot first i) (slice_get lines i) (ival_line value) [] named.Nothing) values

abbrev pub string_rows : (first : ℕ) → List ℕ → List ℕ
string_rows first words =
    rows_of (λ i word. row_text (word_spot first i) None (string_line word) [] (named.Characters word)) words

-- the name of a word of a frame
abbrev pub a_word : Option (List ℕ × Bool) → Named
a_word None = named.Nothing
a_word (Some (name, false)) = named.Name name
a_word (Some (name, true)) = named.First name

abbrev pub word_named : Option Frame → (offset : ℕ) → Named
word_named None offset = named.Nothing
word_named (Some frame) offset = a_word (name_shown (frame_seen frame) offset)

abbrev pub a_name : Option (List ℕ) → Named
a_name None = named.Nothing
a_name (Some name) = named.Name name

abbrev pub label_named : Option Frame → (number : ℕ) → Named
label_named None number = named.Nothing
label_named (Some frame) number = a_name (slice_get frame.labels.items number)

-- the target of a label lies nowhere
abbrev pub target_rows : Option Frame → List ℕ → List ℕ
target_rows frame targets =
    rows_of (λ i target. row_text spot.Nowhere None (target_line target) [] (label_named frame i)) targets

-- the name of what an instruction speaks of
abbrev pub instr_named : Option Frame → Instr → Named
instr_named frame (instr.Automatic offset) = word_named frame offset
instr_named frame (instr.Label number) = label_named frame number
instr_named frame other = named.Nothing

-- the line of a source with this number, from 1 on, without the white space around it; nothing where there is none
abbrev pub line_text : (texts : List (List ℕ)) → (number : ℕ) → List ℕ
line_text texts zero = []
line_text texts (suc n) = let line = get_or texts n [] in trimmed (drop (prefix_len is_ascii_whitespace line) line)

-- the number of the line of the instruction before
abbrev pub number_before : (lines : List ℕ) → (place : ℕ) → Option ℕ
number_before lines zero = None
number_before lines (suc place) = slice_get lines place

-- the text of a line of the source, unless the instruction before is of the same one
abbrev pub source_beside : (texts : List (List ℕ)) → (before number : Option ℕ) → List ℕ
source_beside texts before None = []
source_beside texts None (Some n) = line_text texts n
source_beside texts (Some m) (Some n) = if m == n then [] else line_text texts n

-- instruction i of a function stands at place i
abbrev pub code_rows : (texts : List (List ℕ)) → (lines : List ℕ) → Option Frame → List Instr → List ℕ
code_rows texts lines frame code =
    rows_of (λ i c. row_text (spot.Place i) (slice_get lines i) (instr_line c)
    (source_beside texts (number_before lines i) (slice_get lines i)) (instr_named frame c)) code

-- the address of the first string word of a definition at an address
abbrev pub strings_address : ℕ → Definition → ℕ
strings_address address d = address + words_before_strings (shape_of d).kind (shape_of d).values

-- the rows after the first one of a definition; a vector's own word comes before its values
abbrev pub body_rows : (texts : List (List ℕ)) → (address : ℕ) → (lines : List ℕ) → Option Frame → Definition → List ℕ
body_rows texts address lines frame (definition.Function f) =
    target_rows frame f.targets ++ string_rows (strings_address address (definition.Function f)) f.strings
    ++ code_rows texts lines frame f.code
body_rows texts address lines frame (definition.Simple s) =
    value_rows address lines s.values ++ string_rows (strings_address address (definition.Simple s)) s.strings
body_rows texts address lines frame (definition.Vector v) =
    value_rows (address + 1) lines v.values ++ string_rows (strings_address address (definition.Vector v)) v.strings

-- the rows of a definition at an address
abbrev pub definition_rows : (texts : List (List ℕ)) → (address : ℕ) → (lines : List ℕ) → Option Frame → Definition
    → List ℕ
definition_rows texts address lines frame d =
    row_text (spot.Address address) None (header_line d) [] named.Nothing ++ body_rows texts address lines frame d
