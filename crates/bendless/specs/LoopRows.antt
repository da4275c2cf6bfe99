-- Closed facts: what is noted of the loops of small programs.
use Rattle.std.specs.Prelude.{◌≡◌, ℕ, Bool, true, false, List, [], ◌∷◌, Some, None, codes, map, refl}
use Rattle.bword.specs.declared.operators.BinOp.TheVariants as operator
use Rattle.blang.specs.declared.code.Definition.{Definition}
use Rattle.blang.specs.declared.code.Definition.TheVariants as definition
use Rattle.blang.specs.declared.code.Increment.TheVariants.{PreIncrement}
use Rattle.blang.specs.declared.code.Instr.{Instr}
use Rattle.blang.specs.declared.code.Instr.TheVariants as instr
use Rattle.blang.specs.Machine.{image_of, machine}
use Rattle.btools.specs.Functions.{functions_of}
use Rattle.bwatch.specs.Sights.{sights_of}
use Rattle.bendless.specs.Loops.{Noted, in_loop, is_idle, notes_in, two_rounds, unnoted}
use Rattle.bendless.specs.declared.search.Repeat.{Repeat}

-- a function with a word in its frame
abbrev function : List ℕ → List Instr → Definition
function name code = definition.Function (record {
  name = name;
  parameters = 0;
  frame = 1;
  targets = [];
  strings = [];
  code = code;
})

-- a state after so many steps and again after others, in a call with so many below it
abbrev repeat : (first again callers : ℕ) → Repeat
repeat first again callers = record {
  first = first;
  again = again;
  call = record { strings = 8; parameters = 0; place = 0; start = 8 };
  callers = callers;
}

abbrev notes_of : List Definition → (input : List ℕ) → Repeat → Noted
notes_of ds input r = notes_in (functions_of ds) (sights_of (image_of ds).functions (machine ds) input) r

-- while(n == 0); with n in the word 8
abbrev waiting : List Definition
waiting = function (codes "main")
    (instr.Automatic 0 ∷ instr.Load ∷ instr.Constant 0 ∷ instr.Binary operator.Eq ∷ instr.JumpIfZero 6 ∷ instr.Jump 0
    ∷ []) ∷ []

waits : map (is_idle (notes_of waiting [] (repeat 0 6 0))) (7 ∷ 8 ∷ 9 ∷ []) ≡ false ∷ true ∷ false ∷ []
waits = refl

-- the same where the state comes again between the condition and its jump
begun_before : is_idle (notes_of waiting [] (repeat 4 10 0)) 8 ≡ true
begun_before = refl

-- and as a call with another one below it, which isn't the loop's
other_call : is_idle (notes_of waiting [] (repeat 0 6 1)) 8 ≡ false
other_call = refl

-- while(n != 9) n++; here a step stores the word
abbrev counting : List Definition
counting = function (codes "main")
    (instr.Automatic 0 ∷ instr.Load ∷ instr.Constant 9 ∷ instr.Binary operator.Ne ∷ instr.JumpIfZero 9
    ∷ instr.Automatic 0 ∷ instr.Increment PreIncrement ∷ instr.Pop ∷ instr.Jump 0 ∷ []) ∷ []

counts : is_idle (notes_of counting [] (repeat 0 9 0)) 8 ≡ false
counts = refl

-- while(1) f(); f() if(n); with n in the word 9: it is read by a condition of another call, and asks for nothing
abbrev calling : List Definition
calling = function (codes "main")
    (instr.External (codes "f") ∷ instr.Load ∷ instr.Call 0 ∷ instr.Pop ∷ instr.Jump 0 ∷ [])
    ∷ function (codes "f") (instr.Automatic 0 ∷ instr.Load ∷ instr.JumpIfZero 3 ∷ instr.Constant 0 ∷ instr.Return ∷ [])
    ∷ []

called : map (λ callers. is_idle (notes_of calling [] (repeat 0 10 callers)) 10) (0 ∷ 1 ∷ []) ≡ false ∷ true ∷ []
called = refl

asks_for_nothing : Noted.asks (notes_of calling [] (repeat 0 10 0)) ≡ None
asks_for_nothing = refl

-- while(getchar()); the first call of each round asks, and the first of all is told
abbrev reading : List Definition
reading = function (codes "main")
    (instr.External (codes "getchar") ∷ instr.Load ∷ instr.Call 0 ∷ instr.JumpIfZero 5 ∷ instr.Jump 0 ∷ []) ∷ []

asks : Noted.asks (notes_of reading (97 ∷ []) (repeat 5 10 0))
    ≡ Some (record { strings = 8; parameters = 0; place = 2; start = 8 })
asks = refl

-- A load reads the word of the topmost operand. A jump ends a condition with its only operand, and no other one does.
abbrev read_of : List ℕ → Noted → List ℕ
read_of operands n = Noted.reads (in_loop (Some instr.Load) operands n)

loads : map (λ operands. read_of operands (record unnoted { reads = 7 ∷ [] })) ((9 ∷ []) ∷ (9 ∷ 5 ∷ []) ∷ [])
    ≡ (7 ∷ 9 ∷ []) ∷ (7 ∷ 9 ∷ []) ∷ []
loads = refl

abbrev tests : List ℕ → Bool
tests operands = is_idle (in_loop (Some (instr.JumpIfZero 0)) operands (record unnoted { reads = 8 ∷ [] })) 8

jumps : map tests ((1 ∷ []) ∷ (1 ∷ 2 ∷ []) ∷ []) ≡ true ∷ false ∷ []
jumps = refl

-- Without an operand an expression begins, whatever was read.
begins : Noted.reads (in_loop (Some (instr.Constant 1)) [] (record unnoted { reads = 8 ∷ [] })) ≡ []
begins = refl

-- two rounds, also at the greatest number
rounds : map two_rounds (repeat 15 28 0 ∷ repeat 0 18446744073709551615 0 ∷ []) ≡ 41 ∷ 18446744073709551615 ∷ []
rounds = refl
