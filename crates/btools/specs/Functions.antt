-- Promise: the functions of a program, each with where it lies.
use Rattle.std.specs.Prelude.{◌≡◌, ◌<◌, ℕ, ◌==◌, List, [], map, filter_map, find, get_or, length, slice_get, zip}
use Rattle.std.specs.Prelude.{codes, Option, Some, None}
use Rattle.std.specs.Str.{bytes_eq}
use Rattle.blang.specs.CodeParts.{Function, function_of}
use Rattle.blang.specs.Layout.{DefinitionKind, Simple, Spot, Vector, shape_of, spots}
use Rattle.blang.specs.Layout as layout
use Rattle.blang.specs.declared.code.Definition.{Definition}
use Rattle.blang.specs.declared.code.Definition.TheVariants as definition
use Rattle.blang.specs.declared.code.Instr.{Instr}
use Rattle.btools.specs.declared.tables.FunctionEntry.{FunctionEntry}
use Rattle.btools.specs.declared.tables.Tables.{Tables}

-- a function with the address of its first string word
pub record Placed : Type 0 where
  pub strings : ℕ
  pub function : Function

abbrev pub placed_function : Spot × Definition → Option Placed
placed_function (s, definition.Function f) = Some (record { strings = s.strings; function = f })
placed_function (s, d) = None

-- the functions of definitions, each where it lies
abbrev pub functions_of : List Definition → List Placed
functions_of ds = filter_map placed_function (zip (spots (map shape_of ds)) ds)

-- the function that has its string words there
abbrev pub function_with : List Placed → ℕ → Option Placed
function_with fs strings = find (λ f. f.strings == strings) fs

-- the function of a name
abbrev pub function_named : List Placed → List ℕ → Option Placed
function_named fs name = find (λ f. bytes_eq f.function.name name) fs

abbrev pub placed_entry : FunctionEntry → Placed
placed_entry e = record { strings = e.strings; function = function_of e.parts.now }

-- the functions that a table has
abbrev pub entries_of : Tables → List Placed
entries_of t = map placed_entry t.entries.items

-- A function of this number has its string words there; or none has.
abbrev pub LiesAt : List FunctionEntry → (strings : ℕ) → Option ℕ → Type 0
LiesAt es strings None = (k : ℕ) (d : FunctionEntry) → k < length es → (get_or es k d).strings ≡ strings → ⊥
LiesAt es strings (Some i) = (i < length es) × ((d : FunctionEntry) → (get_or es i d).strings ≡ strings)

-- the name of a function
abbrev pub name_in : Option Placed → List ℕ
name_in (Some f) = f.function.name
name_in None = []

-- the instruction at a place of a function
abbrev pub instr_in : Option Placed → ℕ → Option Instr
instr_in (Some f) place = slice_get f.function.code place
instr_in None place = None

-- what a definition is, in a word
abbrev pub kind_text : DefinitionKind → List ℕ
kind_text (layout.Function labels) = codes "function"
kind_text Simple = codes "simple"
kind_text (Vector n) = codes "vector"
