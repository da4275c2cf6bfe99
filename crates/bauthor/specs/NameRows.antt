-- Closed facts: lines of a file of names, and what some files say.
use Rattle.std.specs.Prelude.{◌≡◌, ℕ, true, false, List, [], ◌∷◌, codes, map, refl, Some, None, Ok, Err}
use Rattle.blang.specs.declared.code.Definition.{Definition}
use Rattle.blang.specs.declared.code.Definition.TheVariants as definition
use Rattle.bauthor.specs.NameFiles.{names_read, names_wanted}
use Rattle.bauthor.specs.NameLines.{line_read, line_text, suits}
use Rattle.bauthor.specs.declared.line.NameLine.TheVariants as line
use Rattle.bauthor.specs.declared.fault.Wanted.TheVariants as wanted

texts : map line_text
    (line.Function (codes "gcd") ∷ line.Word (codes "a") ∷ line.More ∷ line.Label (codes "again") ∷ [])
    ≡ codes "F gcd" ∷ codes "a a" ∷ codes "-" ∷ codes "l again" ∷ []
texts = refl

lines_taken : map line_read
    (codes "F gcd" ∷ codes "a rest_1" ∷ codes "-" ∷ codes "l _" ∷ codes "a abcdefgh" ∷ [])
    ≡ Some (line.Function (codes "gcd")) ∷ Some (line.Word (codes "rest_1")) ∷ Some line.More
    ∷ Some (line.Label (codes "_")) ∷ Some (line.Word (codes "abcdefgh")) ∷ []
lines_taken = refl

-- no name, one that is too long, one with a digit first, two blanks, one after the name, another letter, and others
lines_refused : map line_read
    (codes "a" ∷ codes "a " ∷ codes "a abcdefghi" ∷ codes "a 1a" ∷ codes "a  b" ∷ codes "a b " ∷ codes "w b"
    ∷ codes "--" ∷ codes "- b" ∷ codes "a b\r" ∷ codes "Fb" ∷ [] ∷ [])
    ≡ None ∷ None ∷ None ∷ None ∷ None ∷ None ∷ None ∷ None ∷ None ∷ None ∷ None ∷ None ∷ []
lines_refused = refl

abbrev function : (name : List ℕ) → (parameters frame : ℕ) → (targets : List ℕ) → Definition
function name parameters frame targets = definition.Function (record {
  name = name;
  parameters = parameters;
  frame = frame;
  targets = targets;
  strings = [];
  code = [];
})

-- a function of three words and two labels, and a main one of none, after a word of data
abbrev program : List Definition
program =
    definition.Simple (record { name = codes "n"; values = []; strings = [] })
    ∷ function (codes "f") 1 3 (0 ∷ 0 ∷ []) ∷ function (codes "main") 0 0 [] ∷ []

wanted_lines : names_wanted program
    ≡ wanted.Function (codes "f") ∷ wanted.Word (codes "f") 0 ∷ wanted.Word (codes "f") 1 ∷ wanted.Word (codes "f") 2
    ∷ wanted.Label (codes "f") 0 ∷ wanted.Label (codes "f") 1 ∷ wanted.Function (codes "main") ∷ []
wanted_lines = refl

read_whole : names_read (codes "F f\na i\na v\n-\nl up\nl up\nF main\n") program
    ≡ Ok (line.Function (codes "f") ∷ line.Word (codes "i") ∷ line.Word (codes "v") ∷ line.More
    ∷ line.Label (codes "up") ∷ line.Label (codes "up") ∷ line.Function (codes "main") ∷ [])
read_whole = refl

-- another function, a further word of a vector before its own, a word for a label, a label for a word
wrong_lines : map (λ file. names_read file program)
    (codes "F g\n" ∷ codes "F f\n-\n" ∷ codes "F f\na i\na v\n-\na up\n" ∷ codes "F f\na i\nl up\n" ∷ [])
    ≡ Err (1, wanted.Function (codes "f")) ∷ Err (2, wanted.Word (codes "f") 0)
    ∷ Err (5, wanted.Label (codes "f") 0) ∷ Err (3, wanted.Word (codes "f") 1) ∷ []
wrong_lines = refl

-- nothing, too little, too much, and no newline at the end
wrong_ends : map (λ file. names_read file program)
    ([] ∷ codes "F f\na i\n" ∷ codes "F f\na i\na v\n-\nl up\nl up\nF main\na i\n"
    ∷ codes "F f\na i\na v\n-\nl up\nl up\nF main\n\n" ∷ codes "F f\na i\na v\n-\nl up\nl up\nF main" ∷ [])
    ≡ Err (1, wanted.Function (codes "f")) ∷ Err (3, wanted.Word (codes "f") 1)
    ∷ Err (8, wanted.End) ∷ Err (8, wanted.End) ∷ Err (8, wanted.End) ∷ []
wrong_ends = refl

-- no functions, no lines
no_functions : map (λ file. names_read file []) ([] ∷ codes "F f\n" ∷ [])
    ≡ Ok [] ∷ Err (1, wanted.End) ∷ []
no_functions = refl

-- each kind of line where each is wanted
suiting_lines : map (λ w. map (suits w)
    (line.Function (codes "f") ∷ line.Word (codes "f") ∷ line.More ∷ line.Label (codes "f") ∷ []))
    (wanted.Function (codes "f") ∷ wanted.Function (codes "g") ∷ wanted.Word (codes "f") 0 ∷ wanted.Word (codes "f") 1
    ∷ wanted.Label (codes "f") 0 ∷ wanted.End ∷ [])
    ≡ (true ∷ false ∷ false ∷ false ∷ []) ∷ (false ∷ false ∷ false ∷ false ∷ []) ∷ (false ∷ true ∷ false ∷ false ∷ [])
    ∷ (false ∷ true ∷ true ∷ false ∷ []) ∷ (false ∷ false ∷ false ∷ true ∷ []) ∷ (false ∷ false ∷ false ∷ false ∷ [])
    ∷ []
suiting_lines = refl
