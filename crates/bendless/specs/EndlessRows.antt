-- Closed facts: machines in which a state comes again, with output and at the end of the input, and one that counts.
use Rattle.std.specs.Prelude.{◌≡◌, ℕ, List, [], ◌∷◌, codes, length, map}
use Rattle.std.proofs.Common.{arith, refl, ap}
use Rattle.blang.specs.declared.code.Definition.TheVariants as definition
use Rattle.blang.specs.declared.code.Increment.TheVariants.{PreIncrement}
use Rattle.blang.specs.declared.code.Instr.{Instr}
use Rattle.blang.specs.declared.code.Instr.TheVariants as instr
use Rattle.blang.specs.Layout.{word_at}
use Rattle.blang.specs.Machine.{State, image_of, run, state_world}
use Rattle.bendless.specs.Endless.{ComesAgain, silent}

-- a main function with this code, and no other definition
abbrev machine : (frame : ℕ) → List Instr → List ℕ → ℕ → State
machine frame code input n = run (image_of (definition.Function (record {
  name = codes "main";
  parameters = 0;
  frame = frame;
  targets = [];
  strings = [];
  code = code;
}) ∷ [])) input n

-- while(1);
idle : ComesAgain (machine 0 (instr.Jump 0 ∷ []) []) 0 1
idle = record { later = omega arith; runs = tt; same = refl }

-- while(1) putchar('a'); what was written isn't looked at
writing : ComesAgain
    (machine 0 (instr.External (codes "putchar") ∷ instr.Load ∷ instr.Constant 97 ∷ instr.Call 1 ∷ instr.Pop
    ∷ instr.Jump 0 ∷ []) []) 0 6
writing = record { later = omega arith; runs = tt; same = refl }

-- while(getchar()); with two bytes of input, both of which are read before a state comes again
abbrev reading : ℕ → State
reading =
    machine 0 (instr.External (codes "getchar") ∷ instr.Load ∷ instr.Call 0 ∷ instr.JumpIfZero 5 ∷ instr.Jump 0 ∷ [])
    (97 ∷ 10 ∷ [])

at_the_end_of_the_input : ComesAgain reading 10 15
at_the_end_of_the_input = record { later = omega arith; runs = tt; same = refl }

input_left : map (λ n. (state_world (reading n)).input) (0 ∷ 5 ∷ 10 ∷ 15 ∷ [])
    ≡ (97 ∷ 10 ∷ []) ∷ (10 ∷ []) ∷ [] ∷ [] ∷ []
input_left = refl

-- A byte that is left makes another state.
first_byte : silent (reading 5) ≡ silent (reading 0) → ⊥
first_byte same = let fewer : 1 ≡ 2 = ap (λ s. length (state_world s).input) same in omega (arith, fewer)

-- while(1) n++; with n in word 0 of the frame of main, which lies at 8: at the same place again, with another word
abbrev counting : ℕ → State
counting = machine 1 (instr.Automatic 0 ∷ instr.Increment PreIncrement ∷ instr.Pop ∷ instr.Jump 0 ∷ []) []

counts : map (λ n. word_at (state_world (counting n)) 8) (0 ∷ 4 ∷ 8 ∷ []) ≡ 0 ∷ 1 ∷ 2 ∷ []
counts = refl

counted_on : silent (counting 4) ≡ silent (counting 0) → ⊥
counted_on same = let word : 1 ≡ 0 = ap (λ s. word_at (state_world s) 8) same in omega (arith, word)

-- A machine that has halted has the same state again, and doesn't run in it.
abbrev over : ℕ → State
over = machine 0 (instr.Constant 0 ∷ instr.Return ∷ []) []

over_stays : silent (over 3) ≡ silent (over 2)
over_stays = refl

over_is_not_endless : ComesAgain over 2 3 → ⊥
over_is_not_endless again = again.runs
