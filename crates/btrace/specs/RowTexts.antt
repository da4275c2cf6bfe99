-- Inner words: the texts of the rows of a trace.
use Rattle.std.specs.Prelude.{◌≡◌, ℕ, Bool, ◌-◌, List, [], ◌∷◌, ◌++◌, Option, Some, None, codes, decimal, drop}
use Rattle.std.specs.Prelude.{◌+◌, ◌/◌, ◌%◌, ◌==◌, ◌||◌, ◌&&◌, length, map, min, nat_lt, refl, replicate, reverse}
use Rattle.std.specs.Prelude.{slice_index, if◌then◌else◌}
use Rattle.std.specs.Char.{digit_char}
use Rattle.std.specs.List.{flat_map, range_with_len}
use Rattle.blang.specs.Layout.{store_words}
use Rattle.blang.specs.declared.code.Definition.{Definition}
use Rattle.bmach.specs.declared.machine.Active.{Active}
use Rattle.btools.specs.Characters.{is_printable, shown_byte, signed_text}
use Rattle.btools.specs.Columns.{instr_text, left, right}
use Rattle.bsources.specs.Files.{Files, Line, beyond_first, files_shown}
use Rattle.btools.specs.Functions.{Placed, entries_of, function_with, functions_of, instr_in, name_in}
use Rattle.btools.specs.Origins.{SourcePlaces}
use Rattle.btools.specs.ProgramLines.{FunctionLines, columns_shown, line_at, lined_functions, lines_shown}
use Rattle.btools.specs.Quoting.{file_text}
use Rattle.btools.specs.SourceLines as source_lines
use Rattle.btools.specs.SourceLines.{mark_under, shown_line}
use Rattle.btrace.specs.declared.legend as told
use Rattle.btrace.specs.declared.places.TheConstants.{SHOWN_CALLS, SHOWN_PARAMETERS}
use Rattle.btrace.specs.declared.rows.TheConstants.{MARGIN, SHOWN_OPERANDS}

-- what is told of a program: its functions, the lines and columns of their instructions, and the files of its source
pub record Legend : Type 0 where
  pub functions : List Placed
  pub lines : List FunctionLines
  pub columns : List FunctionLines
  pub files : Files

abbrev pub legend_of : told.Legend.Legend → Legend
legend_of l = record {
  functions = entries_of l.tables.now;
  lines = lines_shown l.tables.now;
  columns = columns_shown l.tables.now;
  files = files_shown l.files;
}

-- that of definitions, whose places come from these
abbrev pub legend_in : List Definition → SourcePlaces → Files → Legend
legend_in ds places files = record {
  functions = functions_of ds;
  lines = lined_functions ds places.lines;
  columns = lined_functions ds places.columns;
  files = files;
}

-- the number of a line, at the right of a column; after the first file it is its number in its own one
abbrev pub line_of : (width line : ℕ) → Option Line → List ℕ
line_of width line None = right width (decimal line)
line_of width line (Some at) = right width (decimal at.line) ++ codes " of " ++ file_text at.file

abbrev pub line_text : (width : ℕ) → Files → (line : ℕ) → List ℕ
line_text width files line = line_of width line (beyond_first files line)

-- the name of the function of a call, its next instruction, and the line of that
abbrev pub name_of : Legend → Active → List ℕ
name_of l call = name_in (function_with l.functions call.strings)

abbrev pub code_of : Legend → Active → List ℕ
code_of l call = instr_text (instr_in (function_with l.functions call.strings) call.place)

abbrev pub place_line : Legend → Active → ℕ
place_line l call = line_at l.lines call.strings call.place

-- its column, from 1 on; 0 where none is told
abbrev pub place_column : Legend → Active → ℕ
place_column l call = line_at l.columns call.strings call.place

-- a line of the source, with a mark under a column; nothing of line 0, which is none
abbrev pub source_row : (source : List ℕ) → (line column : ℕ) → List ℕ
source_row source line column =
    if line == 0 then []
    else codes "    " ++ shown_line (source_lines.line_at source line) ++ mark_under column ++ codes "\n"

-- that at which a call is
abbrev pub source_text : Legend → (source : List ℕ) → Active → List ℕ
source_text l source call = source_row source (place_line l call) (place_column l call)

operands_shown : SHOWN_OPERANDS ≡ 5
operands_shown = refl

margin_width : MARGIN ≡ 43
margin_width = refl

-- the topmost operands, the topmost last, and `..` before them if there are more
abbrev pub operands_text : List ℕ → List ℕ
operands_text words =
    (if nat_lt 0 (length words - SHOWN_OPERANDS) then codes " .." else [])
    ++ flat_map (λ w. codes " " ++ signed_text w) (drop (length words - SHOWN_OPERANDS) words)

-- the number of a step, and the call before it with its operands, the topmost first
abbrev pub step_row : Legend → (number : ℕ) → Active → (operands : List ℕ) → List ℕ
step_row l number call operands =
    right 8 (decimal number) ++ codes "  " ++ left 8 (name_of l call) ++ right 6 (decimal call.place)
    ++ line_text 6 l.files (place_line l call) ++ codes "  " ++ left 12 (code_of l call)
    ++ operands_text (reverse operands) ++ codes "\n"

-- the columns before what a step has stored or written
unfoldable pub margin : List ℕ
margin = replicate MARGIN 32

-- an address and its word
abbrev pub word_row : (store : List ℕ) → (address : ℕ) → List ℕ
word_row store address =
    margin ++ codes "@" ++ decimal address ++ codes " = " ++ signed_text (slice_index store address) ++ codes "\n"

abbrev pub stored_text : (store addresses : List ℕ) → List ℕ
stored_text store addresses = flat_map (word_row store) addresses

-- a byte in hexadecimal digits
abbrev pub hexadecimal : ℕ → List ℕ
hexadecimal b = codes "\\x" ++ digit_char (b / 16) ∷ digit_char (b % 16) ∷ []

-- whether a byte that isn't printable has an escape in B
abbrev pub has_escape : ℕ → Bool
has_escape b = (b == 0) || (b == 4) || (b == 9) || (b == 10)

-- a byte that was written: a character, the escape that stands for it, or its hexadecimal digits
abbrev pub written_byte : ℕ → List ℕ
written_byte b = if is_printable b || has_escape b then shown_byte b else hexadecimal b

-- what was written, if something was
abbrev pub written_row : List ℕ → List ℕ
written_row [] = []
written_row (byte ∷ bytes) =
    margin ++ codes "writes '" ++ flat_map written_byte (byte ∷ bytes) ++ codes "'\n"

parameters_shown : SHOWN_PARAMETERS ≡ 6
parameters_shown = refl

-- The parameters of a call are the first words of its frame.
abbrev pub parameter_at : (store : List ℕ) → Active → ℕ → ℕ
parameter_at store call k = slice_index store ((call.start + k) % store_words)

-- the words of the first parameters of a call, and whether there are more
abbrev pub first_words : (store : List ℕ) → Active → List ℕ
first_words store call = map (parameter_at store call) (range_with_len 0 (min call.parameters SHOWN_PARAMETERS))

abbrev pub has_more : Active → Bool
has_more call = nat_lt SHOWN_PARAMETERS call.parameters

abbrev pub words_text : List ℕ → (are_more : Bool) → List ℕ
words_text words are_more =
    (if nat_lt 0 (length words) then codes "  with" else []) ++ flat_map (λ w. codes " " ++ signed_text w) words
    ++ (if are_more then codes " .." else [])

-- the column of the source, if it is told
abbrev pub column_told : (column : ℕ) → List ℕ
column_told column = if column == 0 then [] else codes "  column " ++ decimal column

-- the function of a call, the place in it, and the line of the source, with its column
abbrev pub site_text : Legend → Active → List ℕ
site_text l call =
    codes "in " ++ left 8 (name_of l call) ++ codes " place " ++ right 4 (decimal call.place) ++ codes "  line "
    ++ line_text 4 l.files (place_line l call) ++ column_told (place_column l call)

abbrev pub place_text : Legend → (store : List ℕ) → Active → List ℕ
place_text l store call = site_text l call ++ words_text (first_words store call) (has_more call) ++ codes "\n"

-- a call that waits, at its instruction that called: its next one comes after that
abbrev pub waiting : Active → Active
waiting call = record call { place = call.place - 1 }

abbrev pub is_same_place : Active → Active → Bool
is_same_place a b = (a.strings == b.strings) && (a.place == b.place)

calls_shown : SHOWN_CALLS ≡ 8
calls_shown = refl

-- a call that led there, if not too many came from its place before it
abbrev pub caller_text : Legend → (store : List ℕ) → Active → (before : ℕ) → List ℕ
caller_text l store caller before =
    if nat_lt before SHOWN_CALLS then codes "called " ++ place_text l store (waiting caller) else []

-- of so many calls from the same place those that were not told
abbrev pub more_text : (count : ℕ) → List ℕ
more_text count =
    if nat_lt SHOWN_CALLS count
    then codes "       and " ++ decimal (count - SHOWN_CALLS) ++ codes " more from there\n" else []

-- How many calls came from the place of this one right before it, after the last one, with which so many did.
abbrev pub count_before : (last : Active) (count : ℕ) → Active → ℕ
count_before last count caller = if is_same_place last caller then count else 0

-- what is said of the calls before this one, if it comes from another place
abbrev pub ended_text : (last : Active) (count : ℕ) → Active → List ℕ
ended_text last count caller = if is_same_place last caller then [] else more_text count

-- the calls after the last one, with which so many came from the same place
abbrev pub callers_text : Legend → (store : List ℕ) → (last : Active) (count : ℕ) → List Active → List ℕ
callers_text l store last count [] = more_text count
callers_text l store last count (caller ∷ below) =
    ended_text last count caller ++ caller_text l store caller (count_before last count caller)
    ++ callers_text l store caller (count_before last count caller + 1) below

-- where a run was over, and the calls that led there, the nearest first
abbrev pub places_text : Legend → (store : List ℕ) → Active → (below : List Active) → List ℕ
places_text l store call below = codes "at     " ++ place_text l store call ++ callers_text l store call 0 below
