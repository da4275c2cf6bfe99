-- Closed values: the code of small programs, on which it is tried what is told of a run.
use Rattle.std.specs.Prelude.{ℕ, List, [], ◌∷◌, ◌++◌, codes, map}
use Rattle.blang.specs.declared.code.Definition.{Definition}
use Rattle.blang.specs.declared.code.Definition.TheVariants as definition
use Rattle.blang.specs.declared.code.Instr.{Instr}
use Rattle.blang.specs.declared.code.Instr.TheVariants as instr

abbrev pub function : List ℕ → List Instr → Definition
function name code = definition.Function (record {
  name = name;
  parameters = 0;
  frame = 0;
  targets = [];
  strings = [];
  code = code;
})

abbrev pub closing : List Instr
closing = instr.Constant 0 ∷ instr.Return ∷ []

abbrev pub calling_f : List Instr
calling_f = instr.External (codes "f") ∷ instr.Load ∷ instr.Call 0 ∷ instr.Pop ∷ closing

-- the code of `main(){}`, which halts with its second step
abbrev pub nothing : List Definition
nothing = function (codes "main") closing ∷ []

-- of `main(){f();}f(){f();}`: each third step is a call
abbrev pub calling : List Definition
calling = function (codes "main") calling_f ∷ function (codes "f") calling_f ∷ []

-- the code of `main(){f(1,2,3,4,5,6,7);}f(a,b,c,d,e,g,h){}`: the tenth step calls `f`
abbrev pub passing : List Definition
passing = function (codes "main")
    (instr.External (codes "f") ∷ instr.Load ∷ map instr.Constant (1 ∷ 2 ∷ 3 ∷ 4 ∷ 5 ∷ 6 ∷ 7 ∷ [])
    ++ instr.Call 7 ∷ instr.Pop ∷ closing)
    ∷ definition.Function (record {
      name = codes "f";
      parameters = 7;
      frame = 7;
      targets = [];
      strings = [];
      code = closing;
    })
    ∷ []

-- of `main(){putchar('a');}`, which writes in its fourth step
abbrev pub writing : List Definition
writing = function (codes "main")
    (instr.External (codes "putchar") ∷ instr.Load ∷ instr.Constant 97 ∷ instr.Call 1 ∷ instr.Pop ∷ closing)
    ∷ []

-- of `main(){getchar();}`, which reads in its third step
abbrev pub reading : List Definition
reading = function (codes "main")
    (instr.External (codes "getchar") ∷ instr.Load ∷ instr.Call 0 ∷ instr.Pop ∷ closing)
    ∷ []

-- of `main(){*3=5;}`, which stores a word in its third step
abbrev pub storing : List Definition
storing = function (codes "main") (instr.Constant 3 ∷ instr.Constant 5 ∷ instr.Store ∷ instr.Pop ∷ closing) ∷ []

-- of `main(){0();}`, whose second step is a trap
abbrev pub trapping : List Definition
trapping = function (codes "main") (instr.Constant 0 ∷ instr.Call 0 ∷ instr.Pop ∷ closing) ∷ []
