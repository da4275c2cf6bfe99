-- Inner words: a function that is found in a program, and what is kept of it.
use Rattle.std.specs.Prelude.{ℕ, ◌+◌, List, [], ◌∷◌}
use Rattle.blang.specs.CodeParts.{function_of}
use Rattle.blang.specs.declared.code.Definition.{Definition}
use Rattle.blang.specs.declared.code.Definition.TheVariants as definition
use Rattle.btools.specs.Functions.{Placed}
use Rattle.btools.specs.ProgramLines.{FunctionLines}
use Rattle.bhost.specs.declared.found.Found.{Found}

abbrev pub placed_found : Found → Placed
placed_found f = record { strings = f.strings; function = function_of f.parts.now }

abbrev pub lined_found : Found → FunctionLines
lined_found f = record { strings = f.strings; lines = f.lines.now }

-- the columns in the place of the lines
abbrev pub columned_found : Found → FunctionLines
columned_found f = record { strings = f.strings; lines = f.columns.now }

-- the function that a definition at an address is, if it is one
abbrev pub function_in : Definition → (address : ℕ) → List Placed
function_in (definition.Function f) address = record { strings = address + 1; function = f } ∷ []
function_in other address = []

-- and its lines
abbrev pub lines_in : Definition → (address : ℕ) → (lines : List ℕ) → List FunctionLines
lines_in (definition.Function f) address lines = record { strings = address + 1; lines = lines } ∷ []
lines_in other address lines = []
