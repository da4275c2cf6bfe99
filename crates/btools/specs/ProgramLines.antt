-- Promise: the line of each instruction and each initial value of a program.
use Rattle.std.specs.Prelude.{◌≡◌, ℕ, ◌==◌, List, [], ◌∷◌, drop, filter_map, find, get_or, map, take, zip}
use Rattle.std.specs.Prelude.{Option, Some, None}
use Rattle.bword.specs.declared.edition.Edition.{Edition}
use Rattle.blang.specs.Compiles.{Compilation, CompilesTo}
use Rattle.blang.specs.Cut.{tokens_from}
use Rattle.blang.specs.Layout.{Spot, shape_of, spots}
use Rattle.blang.specs.Lines.{program_lines, size_of}
use Rattle.blang.specs.declared.code.Definition.{Definition}
use Rattle.blang.specs.declared.code.Definition.TheVariants as definition
use Rattle.bparse.specs.Locals.{Notes, notes_of}
use Rattle.bparse.specs.Watches.{KeepsMore}
use Rattle.btools.specs.declared.tables.FunctionEntry.{FunctionEntry}
use Rattle.btools.specs.declared.tables.Tables.{Tables}

-- the lines of the tokens of a source
abbrev pub token_lines : Edition → List ℕ → List ℕ
token_lines edition source = map (λ t. t.line) (tokens_from edition 1 source)

-- These are the lines of the code of a source: of one definition after another, those of its instructions or initial
-- values.
abbrev pub HasLines : Edition → List ℕ → List ℕ → Type 0
HasLines edition source lines =
    (r : Compilation) (g : CompilesTo [] (tokens_from edition 1 source) r)
    → lines ≡ program_lines g.definitions (token_lines edition source)

-- A watcher that had kept this has kept what is noted of the source, too, or it keeps nothing.
abbrev pub KeepsNotesOf : Edition → List ℕ → Option Notes → Option Notes → Type 0
KeepsNotesOf edition source kept now =
    (r : Compilation) (g : CompilesTo [] (tokens_from edition 1 source) r)
    → KeepsMore kept (notes_of g.definitions (token_lines edition source)) now

-- each definition with its own lines
abbrev pub with_lines : List Definition → List ℕ → List (Definition × List ℕ)
with_lines [] lines = []
with_lines (d ∷ ds) lines = (d, take (size_of d) lines) ∷ with_lines ds (drop (size_of d) lines)

-- the lines of a function, and the address of its first string word
pub record FunctionLines : Type 0 where
  pub strings : ℕ
  pub lines : List ℕ

abbrev pub lined_function : Spot × (Definition × List ℕ) → Option FunctionLines
lined_function (s, (definition.Function f, lines)) = Some (record { strings = s.strings; lines = lines })
lined_function (s, (d, lines)) = None

-- those of the functions of definitions
abbrev pub lined_functions : List Definition → List ℕ → List FunctionLines
lined_functions ds lines = filter_map lined_function (zip (spots (map shape_of ds)) (with_lines ds lines))

-- the function that has its string words there
abbrev pub lines_with : List FunctionLines → (strings : ℕ) → Option FunctionLines
lines_with fs strings = find (λ f. f.strings == strings) fs

-- the line of an instruction of a function; 0 where none is known
abbrev pub line_in : Option FunctionLines → (place : ℕ) → ℕ
line_in None place = 0
line_in (Some f) place = get_or f.lines place 0

-- the line of an instruction of the function that has its string words there
abbrev pub line_at : List FunctionLines → (strings place : ℕ) → ℕ
line_at fs strings place = line_in (lines_with fs strings) place

abbrev pub lined_entry : FunctionEntry → FunctionLines
lined_entry e = record { strings = e.strings; lines = e.lines.now }

-- the lines that a table has
abbrev pub lines_shown : Tables → List FunctionLines
lines_shown t = map lined_entry t.entries.items

-- the columns that it has, in the place of lines
abbrev pub columned_entry : FunctionEntry → FunctionLines
columned_entry e = record { strings = e.strings; lines = e.columns.now }

abbrev pub columns_shown : Tables → List FunctionLines
columns_shown t = map columned_entry t.entries.items
