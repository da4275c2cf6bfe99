-- Closed facts: what each instruction takes and where it leads, and the flaws of some functions.
use Rattle.std.specs.Prelude.{◌≡◌, ℕ, true, false, List, [], ◌∷◌, Some, None, codes, map, refl}
use Rattle.bword.specs.declared.operators.BinOp.TheVariants as op
use Rattle.blang.specs.declared.code.Increment.TheVariants.{PostIncrement}
use Rattle.blang.specs.declared.code.Instr.{Instr}
use Rattle.blang.specs.declared.code.Instr.TheVariants as instr
use Rattle.bverify.specs.Depths.{Way, operands_taken, way, ways}
use Rattle.bverify.specs.Flaws.{flaws_of, some_can_be_stuck}
use Rattle.bverify.specs.declared.flaws.Flaw.{Flaw}
use Rattle.bverify.specs.declared.flaws.Flaw.TheVariants as flaw
use Rattle.bverify.specs.declared.flaws.PlacedFlaw.{PlacedFlaw}

-- all that put a word
abbrev puts : List Instr
puts = instr.Constant 7 ∷ instr.External (codes "n") ∷ instr.Automatic 1 ∷ instr.Text 2 ∷ instr.Label 0 ∷ []

puts_take : map operands_taken puts ≡ 0 ∷ 0 ∷ 0 ∷ 0 ∷ 0 ∷ []
puts_take = refl

puts_lead : map (λ i. ways [] i 5 9) puts
    ≡ (way 6 10 ∷ []) ∷ (way 6 10 ∷ []) ∷ (way 6 10 ∷ []) ∷ (way 6 10 ∷ []) ∷ (way 6 10 ∷ []) ∷ []
puts_lead = refl

-- all that compute on one word, and then on two
abbrev ones : List Instr
ones = instr.Load ∷ instr.Negate ∷ instr.Not ∷ instr.Increment PostIncrement ∷ []

ones_take : map operands_taken ones ≡ 1 ∷ 1 ∷ 1 ∷ 1 ∷ []
ones_take = refl

ones_lead : map (λ i. ways [] i 5 9) ones ≡ (way 6 9 ∷ []) ∷ (way 6 9 ∷ []) ∷ (way 6 9 ∷ []) ∷ (way 6 9 ∷ []) ∷ []
ones_lead = refl

abbrev twos : List Instr
twos = instr.Store ∷ instr.Binary op.Add ∷ instr.Modify op.Add ∷ []

twos_take : map operands_taken twos ≡ 2 ∷ 2 ∷ 2 ∷ []
twos_take = refl

twos_lead : map (λ i. ways [] i 5 9) twos ≡ (way 6 8 ∷ []) ∷ (way 6 8 ∷ []) ∷ (way 6 8 ∷ []) ∷ []
twos_lead = refl

-- all that lead to another place, or nowhere
abbrev leading : List Instr
leading = instr.Jump 4 ∷ instr.JumpIfZero 4 ∷ instr.Goto ∷ instr.JumpIfCase 7 4 ∷ instr.Return ∷ instr.Pop ∷ []

leading_take : map operands_taken leading ≡ 0 ∷ 1 ∷ 1 ∷ 1 ∷ 1 ∷ 1 ∷ []
leading_take = refl

leading_lead : map (λ i. ways (2 ∷ 3 ∷ []) i 5 9) leading
    ≡ (way 4 9 ∷ []) ∷ (way 4 8 ∷ way 6 8 ∷ []) ∷ (way 2 8 ∷ way 3 8 ∷ []) ∷ (way 4 8 ∷ way 6 9 ∷ []) ∷ []
    ∷ (way 6 8 ∷ []) ∷ []
leading_lead = refl

-- A call takes its callee and its arguments, and puts a word.
calls_take : map operands_taken (instr.Call 0 ∷ instr.Call 3 ∷ instr.Call 65535 ∷ []) ≡ 1 ∷ 4 ∷ 65536 ∷ []
calls_take = refl

calls_lead : map (λ i. ways [] i 5 9) (instr.Call 0 ∷ instr.Call 3 ∷ []) ≡ (way 6 9 ∷ []) ∷ (way 6 6 ∷ []) ∷ []
calls_lead = refl

abbrev at : (place : ℕ) → Flaw → PlacedFlaw
at place f = record { place = place; flaw = f }

-- p
nothing_to_drop : flaws_of [] (instr.Pop ∷ []) (Some 0 ∷ []) ≡ at 0 (flaw.Lacks 0 1) ∷ []
nothing_to_drop = refl

no_code : flaws_of [] [] [] ≡ at 0 (flaw.Leaves 0) ∷ []
no_code = refl

no_return : flaws_of [] (instr.Constant 1 ∷ []) (Some 0 ∷ []) ≡ at 0 (flaw.Leaves 1) ∷ []
no_return = refl

no_callee : flaws_of [] (instr.Constant 1 ∷ instr.Call 1 ∷ instr.Return ∷ []) (Some 0 ∷ Some 1 ∷ None ∷ [])
    ≡ at 1 (flaw.Lacks 1 2) ∷ at 2 flaw.Unreached ∷ []
no_callee = refl

-- c 1, z 3, c 2, c 0, r: with one operand or none at place 3
abbrev branching : List Instr
branching =
    instr.Constant 1 ∷ instr.JumpIfZero 3 ∷ instr.Constant 2 ∷ instr.Constant 0 ∷ instr.Return ∷ []

two_depths : flaws_of [] branching (Some 0 ∷ Some 1 ∷ Some 0 ∷ Some 0 ∷ Some 1 ∷ []) ≡ at 2 (flaw.Differs 3 1 0) ∷ []
two_depths = refl

other_depth : flaws_of [] branching (Some 0 ∷ Some 1 ∷ Some 0 ∷ Some 1 ∷ Some 2 ∷ [])
    ≡ at 1 (flaw.Differs 3 0 1) ∷ at 4 (flaw.Left 1) ∷ []
other_depth = refl

-- Depths that leave a way out, or have one operand less, don't pass.
abbrev ending : List Instr
ending = instr.Constant 0 ∷ instr.Return ∷ []

right_depths : flaws_of [] ending (Some 0 ∷ Some 1 ∷ []) ≡ []
right_depths = refl

wrong_depths : map (λ ds. some_can_be_stuck (flaws_of [] ending ds))
    ((Some 0 ∷ None ∷ []) ∷ (Some 0 ∷ Some 0 ∷ []) ∷ (Some 0 ∷ Some 2 ∷ []) ∷ (None ∷ None ∷ [])
    ∷ (Some 1 ∷ Some 2 ∷ []) ∷ [])
    ≡ true ∷ true ∷ true ∷ true ∷ true ∷ []
wrong_depths = refl

-- c 0, r, c 0, r; c 1, c 2, r: these can't be stuck
unreached : flaws_of [] (instr.Constant 0 ∷ instr.Return ∷ instr.Constant 0 ∷ instr.Return ∷ [])
    (Some 0 ∷ Some 1 ∷ None ∷ None ∷ [])
    ≡ at 2 flaw.Unreached ∷ []
unreached = refl

left_over : flaws_of [] (instr.Constant 1 ∷ instr.Constant 2 ∷ instr.Return ∷ []) (Some 0 ∷ Some 1 ∷ Some 2 ∷ [])
    ≡ at 2 (flaw.Left 1) ∷ []
left_over = refl

harmless : map some_can_be_stuck
    ((at 2 flaw.Unreached ∷ []) ∷ (at 2 (flaw.Left 1) ∷ []) ∷ (at 2 (flaw.NoGoto 1) ∷ []) ∷ [] ∷ [])
    ≡ false ∷ false ∷ false ∷ false ∷ []
harmless = refl

-- two labels, of a function that has no goto; of one that has, and of one to whose goto no way leads
labels_without_goto : flaws_of (1 ∷ 0 ∷ []) ending (Some 0 ∷ Some 1 ∷ [])
    ≡ at 1 (flaw.NoGoto 0) ∷ at 0 (flaw.NoGoto 1) ∷ []
labels_without_goto = refl

labels_with_goto : flaws_of (0 ∷ []) (instr.Label 0 ∷ instr.Goto ∷ []) (Some 0 ∷ Some 1 ∷ []) ≡ []
labels_with_goto = refl

goto_unreached : flaws_of (0 ∷ []) (instr.Constant 0 ∷ instr.Return ∷ instr.Goto ∷ []) (Some 0 ∷ Some 1 ∷ None ∷ [])
    ≡ at 2 flaw.Unreached ∷ at 0 (flaw.NoGoto 0) ∷ []
goto_unreached = refl

-- Depths that no call can have: with none at all a way comes to the first place.
none_known : flaws_of [] ending (None ∷ None ∷ []) ≡ at 0 (flaw.Differs 0 0 0) ∷ []
none_known = refl
