-- Promise: the texts of the rows of a page.
use Rattle.std.specs.Prelude.{◌≡◌, ℕ, ◌+◌, ◌%◌, ◌==◌, Bool, false, List, [], ◌∷◌, ◌++◌, Option, Some, codes, decimal}
use Rattle.std.specs.Prelude.{drop, length, map, refl, reverse, slice_index, if◌then◌else◌}
use Rattle.std.specs.List.{flat_map}
use Rattle.std.specs.Option.{option_map_or}
use Rattle.blang.specs.declared.code.Definition.{Definition}
use Rattle.blang.specs.declared.code.Instr.{Instr}
use Rattle.blang.specs.declared.code.Instr.TheVariants as instr
use Rattle.bmach.specs.declared.machine.Active.{Active}
use Rattle.btools.specs.Functions.{Placed, entries_of, function_with, functions_of, instr_in, name_in}
use Rattle.btools.specs.ProgramLines.{FunctionLines, line_at, lined_functions, lines_shown}
use Rattle.btools.specs.declared.tables.Tables.{Tables}
use Rattle.btools.specs.Columns.{instr_text}
use Rattle.btools.specs.Characters.{signed_text}
use Rattle.bwatch.specs.Sights.{Sight, Sights, stored_between}
use Rattle.bshow.specs.Escapes.{escaped}
use Rattle.bshow.specs.declared.rows.TheConstants.{GETCHAR}

getchar_value : GETCHAR ≡ 3
getchar_value = refl

-- what rows tell of a program: its functions, and the lines of their instructions
pub record LinedCode : Type 0 where
  pub functions : List Placed
  pub lines : List FunctionLines

-- of definitions, whose code has these lines
abbrev pub lined_code : List Definition → (lines : List ℕ) → LinedCode
lined_code ds lines = record { functions = functions_of ds; lines = lined_functions ds lines }

-- what a table has of it
abbrev pub table_code : Tables → LinedCode
table_code t = record { functions = entries_of t; lines = lines_shown t }

-- a cell with a number, with a text, and with words as an array of signed numbers
abbrev pub number_cell : ℕ → List ℕ
number_cell n = codes "<td>" ++ decimal n

abbrev pub text_cell : List ℕ → List ℕ
text_cell text = codes "<td>" ++ escaped text

abbrev pub other_text : ℕ → List ℕ
other_text w = codes "," ++ signed_text w

abbrev pub others_text : List ℕ → List ℕ
others_text words = flat_map other_text words

abbrev pub words_cell : List ℕ → List ℕ
words_cell [] = codes "<td>[]"
words_cell (w ∷ ws) = codes "<td>[" ++ signed_text w ++ others_text ws ++ codes "]"

-- the instruction that a call makes next
abbrev pub instr_of : LinedCode → Active → Option Instr
instr_of code call = instr_in (function_with code.functions call.strings) call.place

-- the call before a step: its number, the function, place, line and code, the operands, of which the topmost comes
-- first and is told last, how many calls are below, and the address of the frame
abbrev pub call_cells : LinedCode → (number : ℕ) → Active → (operands : List ℕ) → (below : ℕ) → List ℕ
call_cells code number call operands below =
    codes "<tr>" ++ number_cell number ++ text_cell (name_in (function_with code.functions call.strings))
    ++ number_cell call.place ++ number_cell (line_at code.lines call.strings call.place)
    ++ text_cell (instr_text (instr_of code call)) ++ words_cell (reverse operands) ++ number_cell below
    ++ number_cell call.start

-- what a step did: from which address on it stored words, the words there before, the words that it stored, and what it
-- read and wrote
abbrev pub done_cells : (address : ℕ) → (before stored read written : List ℕ) → List ℕ
done_cells address before stored read written =
    number_cell address ++ words_cell before ++ words_cell stored ++ text_cell read ++ text_cell written
    ++ codes "</tr>\n"

-- the words at these addresses
abbrev pub words_in : (store addresses : List ℕ) → List ℕ
words_in store addresses = map (slice_index store) addresses

-- whether an instruction with these operands, the topmost first, calls `getchar`
abbrev pub is_getchar : (operands : List ℕ) → Option Instr → Bool
is_getchar operands (Some (instr.Call n)) = slice_index operands n == GETCHAR
is_getchar operands i = false

-- whether the next step does
abbrev pub hears_next : LinedCode → Sight → Bool
hears_next code s = option_map_or (λ call. is_getchar s.operands (instr_of code call)) s.call false

-- the byte that a call of `getchar` gave, which is on top of the operands after its step
abbrev pub heard_byte : (hears : Bool) → (operands : List ℕ) → List ℕ
heard_byte hears operands = if hears then slice_index operands 0 % 256 ∷ [] else []

-- what a step heard; one that ends the run heard nothing
abbrev pub heard_between : LinedCode → (before after : Sight) → List ℕ
heard_between code before after =
    option_map_or (λ call. heard_byte (hears_next code before) after.operands) after.call []

-- the cells of a step, before it and after it
abbrev pub sight_cells : LinedCode → (number : ℕ) → Sight → List ℕ
sight_cells code number s =
    option_map_or (λ call. call_cells code number call s.operands (length s.below)) s.call []

abbrev pub stored_cells : (addresses before after read written : List ℕ) → List ℕ
stored_cells addresses before after read written =
    done_cells (slice_index addresses 0) (words_in before addresses) (words_in after addresses) read written

abbrev pub step_cells : LinedCode → (before after : Sight) → List ℕ
step_cells code before after =
    stored_cells (stored_between before after) before.store after.store (heard_between code before after)
    (drop (length before.output) after.output)

-- the row of a step, by the number of those before it
abbrev pub row_text : LinedCode → Sights → (made : ℕ) → List ℕ
row_text code sights made =
    sight_cells code (made + 1) (sights made) ++ step_cells code (sights made) (sights (made + 1))
