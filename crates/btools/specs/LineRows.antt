-- Closed facts: the lines of each definition of a program, and the line of each instruction of its functions.
use Rattle.std.specs.Prelude.{◌≡◌, ℕ, List, [], ◌∷◌, codes, map, refl}
use Rattle.blang.specs.declared.code.Definition.{Definition}
use Rattle.blang.specs.declared.code.Definition.TheVariants as definition
use Rattle.blang.specs.declared.code.Instr.{Instr}
use Rattle.blang.specs.declared.code.Instr.TheVariants as instr
use Rattle.blang.specs.declared.code.Ival.TheVariants as ival
use Rattle.btools.specs.ProgramLines.{line_at, lined_functions, with_lines}

-- a function with this code, and a string word
abbrev function_with_code : List ℕ → List Instr → Definition
function_with_code name code =
    definition.Function (record {
      name = name;
      parameters = 0;
      frame = 0;
      targets = [];
      strings = 0 ∷ [];
      code = code;
    })

-- an external of two words, a vector of one value, a function of two instructions and one of three
abbrev some_program : List Definition
some_program =
    definition.Simple (record { name = codes "n"; values = ival.Number 1 ∷ ival.Number 2 ∷ []; strings = [] })
    ∷ function_with_code (codes "f") (instr.Load ∷ instr.Store ∷ [])
    ∷ definition.Vector (record { name = codes "v"; words = 4; values = ival.Number 3 ∷ []; strings = [] })
    ∷ function_with_code (codes "g") (instr.Load ∷ instr.Store ∷ instr.Not ∷ []) ∷ []

abbrev some_lines : List ℕ
some_lines = 1 ∷ 2 ∷ 4 ∷ 4 ∷ 6 ∷ 8 ∷ 9 ∷ 11 ∷ []

each_with_its_own : map (λ d. d.1) (with_lines some_program some_lines)
    ≡ (1 ∷ 2 ∷ []) ∷ (4 ∷ 4 ∷ []) ∷ (6 ∷ []) ∷ (8 ∷ 9 ∷ 11 ∷ []) ∷ []
each_with_its_own = refl

-- where the lines are too few, or too many
too_few : map (λ d. d.1) (with_lines some_program (1 ∷ 2 ∷ 4 ∷ [])) ≡ (1 ∷ 2 ∷ []) ∷ (4 ∷ []) ∷ [] ∷ [] ∷ []
too_few = refl

none_left : map (λ d. d.1) (with_lines [] some_lines) ≡ []
none_left = refl

-- the functions alone, each with the address of its string word
functions_alone : lined_functions some_program some_lines
    ≡ record { strings = 10; lines = 4 ∷ 4 ∷ [] } ∷ record { strings = 17; lines = 8 ∷ 9 ∷ 11 ∷ [] } ∷ []
functions_alone = refl

-- each instruction of both functions, and one past the last
line_of_each : map (line_at (lined_functions some_program some_lines) 17) (0 ∷ 1 ∷ 2 ∷ 3 ∷ []) ≡ 8 ∷ 9 ∷ 11 ∷ 0 ∷ []
line_of_each = refl

line_of_first : map (line_at (lined_functions some_program some_lines) 10) (0 ∷ 1 ∷ 2 ∷ []) ≡ 4 ∷ 4 ∷ 0 ∷ []
line_of_first = refl

-- no function lies there
no_function : map (λ s. line_at (lined_functions some_program some_lines) s 0) (0 ∷ 9 ∷ 11 ∷ 18 ∷ []) ≡ 0 ∷ 0 ∷ 0 ∷ 0 ∷ []
no_function = refl
