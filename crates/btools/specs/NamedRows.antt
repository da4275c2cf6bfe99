-- Closed facts: the names of frames by the lines of a file of names, and what is told of a wrong one.
use Rattle.std.specs.Prelude.{◌≡◌, ℕ, true, false, List, [], ◌∷◌, codes, map, refl}
use Rattle.std.specs.Fmt.{digits}
use Rattle.bauthor.specs.declared.line.NameLine.{NameLine}
use Rattle.bauthor.specs.declared.line.NameLine.TheVariants as line
use Rattle.bauthor.specs.declared.fault.Wanted.TheVariants as wanted
use Rattle.blang.specs.declared.code.Definition.{Definition}
use Rattle.blang.specs.declared.code.Definition.TheVariants as definition
use Rattle.btools.specs.NamedFrames.{frames_named, unnamed_line}

abbrev function : (name : List ℕ) → (frame : ℕ) → (targets : List ℕ) → Definition
function name frame targets = definition.Function (record {
  name = name;
  parameters = 0;
  frame = frame;
  targets = targets;
  strings = [];
  code = [];
})

-- data between two functions
abbrev program : List Definition
program =
    function (codes "f") 5 (0 ∷ 0 ∷ [])
    ∷ definition.Simple (record { name = codes "n"; values = []; strings = [] })
    ∷ function (codes "main") 2 [] ∷ []

abbrev lines : List NameLine
lines =
    line.Function (codes "f") ∷ line.Word (codes "a") ∷ line.Word (codes "v") ∷ line.More ∷ line.More
    ∷ line.Word (codes "i") ∷ line.Label (codes "up") ∷ line.Label (codes "on")
    ∷ line.Function (codes "main") ∷ line.Word (codes "a") ∷ line.Word (codes "b") ∷ []

names_of_two : frames_named program lines
    ≡ record {
      words =
          record { name = codes "a"; offset = 0; is_vector = false }
          ∷ record { name = codes "v"; offset = 1; is_vector = true }
          ∷ record { name = codes "i"; offset = 4; is_vector = false } ∷ [];
      labels = codes "up" ∷ codes "on" ∷ [];
    }
    ∷ record {
      words =
          record { name = codes "a"; offset = 0; is_vector = false }
          ∷ record { name = codes "b"; offset = 1; is_vector = false } ∷ [];
      labels = [];
    }
    ∷ []
names_of_two = refl

wrong_names_told : map (unnamed_line 12)
    (wanted.Function (codes "f") ∷ wanted.Word (codes "f") 0 ∷ wanted.Word (codes "f") 3 ∷ wanted.Label (codes "f") 2
    ∷ wanted.End ∷ [])
    ≡ codes "error: line 12 of the file of names has to be 'F f'\n"
    ∷ codes "error: line 12 of the file of names has to be 'a NAME', for word 0 of f\n"
    ∷ codes "error: line 12 of the file of names has to be 'a NAME' or '-', for word 3 of f\n"
    ∷ codes "error: line 12 of the file of names has to be 'l NAME', for label 2 of f\n"
    ∷ codes "error: line 12 of the file of names has to be its end\n"
    ∷ []
unfolding digits
wrong_names_told = refl
