-- Closed facts: the names of the functions of a code text by the lines of its file of names, at the edges.
use Rattle.std.specs.Prelude.{◌≡◌, ℕ, Bool, true, false, List, [], ◌∷◌, codes, refl}
use Rattle.bauthor.specs.declared.line.NameLine.TheVariants as line
use Rattle.blang.specs.declared.code.Definition.{Definition}
use Rattle.blang.specs.declared.code.Definition.TheVariants as definition
use Rattle.blang.specs.declared.code.Ival.TheVariants as ival
use Rattle.btools.specs.NamedFrames.{FunctionNames, frames_named}
use Rattle.btools.specs.declared.names.FrameWord.{FrameWord}

-- a function with so many words in its frame, and with these labels
abbrev function : (frame : ℕ) → (targets : List ℕ) → Definition
function frame targets = definition.Function (record {
  name = codes "f";
  parameters = 0;
  frame = frame;
  targets = targets;
  strings = [];
  code = [];
})

abbrev numbers : Definition
numbers = definition.Simple (record { name = codes "n"; values = ival.Number 4 ∷ []; strings = [] })

abbrev word : (name : List ℕ) → (offset : ℕ) → (is_vector : Bool) → FrameWord
word name offset is_vector = record { name = name; offset = offset; is_vector = is_vector }

abbrev names : List FrameWord → (labels : List (List ℕ)) → FunctionNames
names words labels = record { words = words; labels = labels }

-- without functions there are no names, and a function without lines has none
no_functions : frames_named [] (line.Function (codes "f") ∷ line.Word (codes "a") ∷ []) ≡ []
no_functions = refl

data_alone : frames_named (numbers ∷ numbers ∷ []) (line.Function (codes "f") ∷ []) ≡ []
data_alone = refl

no_lines : frames_named (function 2 (0 ∷ []) ∷ function 0 [] ∷ []) [] ≡ names [] [] ∷ names [] [] ∷ []
no_lines = refl

-- one function: its own line names nothing, and lines after its own aren't its own
nothing_named : frames_named (function 0 [] ∷ []) (line.Function (codes "f") ∷ []) ≡ names [] [] ∷ []
nothing_named = refl

not_its_own : frames_named (function 0 [] ∷ []) (line.Function (codes "f") ∷ line.Word (codes "a") ∷ [])
    ≡ names [] [] ∷ []
not_its_own = refl

a_label_alone : frames_named (function 0 (3 ∷ []) ∷ []) (line.Function (codes "f") ∷ line.Label (codes "l") ∷ [])
    ≡ names [] (codes "l" ∷ []) ∷ []
a_label_alone = refl

-- the last word of a frame, by itself and as that of a vector
last_word : frames_named (function 1 [] ∷ []) (line.Function (codes "f") ∷ line.Word (codes "a") ∷ [])
    ≡ names (word (codes "a") 0 false ∷ []) [] ∷ []
last_word = refl

last_vector : frames_named (function 3 [] ∷ [])
    (line.Function (codes "f") ∷ line.Word (codes "a") ∷ line.Word (codes "v") ∷ line.More ∷ [])
    ≡ names (word (codes "a") 0 false ∷ word (codes "v") 1 true ∷ []) [] ∷ []
last_vector = refl

-- several functions, with data before, between and after them: each has its own
each_has_its_own : frames_named
    (numbers ∷ function 1 [] ∷ function 1 (0 ∷ []) ∷ numbers ∷ function 0 [] ∷ function 1 [] ∷ numbers ∷ [])
    (line.Function (codes "f") ∷ line.Word (codes "a")
    ∷ line.Function (codes "f") ∷ line.Word (codes "b") ∷ line.Label (codes "l")
    ∷ line.Function (codes "f")
    ∷ line.Function (codes "f") ∷ line.Word (codes "c") ∷ [])
    ≡ names (word (codes "a") 0 false ∷ []) []
    ∷ names (word (codes "b") 0 false ∷ []) (codes "l" ∷ [])
    ∷ names [] []
    ∷ names (word (codes "c") 0 false ∷ []) []
    ∷ []
each_has_its_own = refl
