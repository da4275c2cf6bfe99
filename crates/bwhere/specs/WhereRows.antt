-- Closed facts: what could come in a line of a code text, and what is told of one that went wrong.
use Rattle.std.specs.Prelude.{◌≡◌, ℕ, List, [], ◌∷◌, ◌++◌, Some, None, codes, map, refl, true, false}
use Rattle.std.specs.Fmt.{digits}
use Rattle.blang.specs.declared.code.Definition.{Definition}
use Rattle.blang.specs.declared.code.Definition.TheVariants as definition
use Rattle.blang.specs.declared.code.Instr.TheVariants as instr
use Rattle.bword.specs.declared.operators.BinOp.TheVariants as operator
use Rattle.blang.specs.declared.run.LoadFault.TheVariants as fault
use Rattle.blang.specs.declared.run.Outcome.TheVariants as outcome
use Rattle.blang.specs.declared.run.Trap.TheVariants as trap
use Rattle.bmach.specs.declared.machine.Active.{Active}
use Rattle.bwhere.specs.Dues.{due_text, number_in, opens}
use Rattle.bwhere.specs.Sites.{Site, nowhere}
use Rattle.bwhere.specs.Wheres.{code_meaning, site_of, told_code_site, unloaded_text, unread_text, uses}

opening : map opens (codes "E" ∷ codes "F f" ∷ codes "V v" ∷ codes "X n" ∷ codes "B 2" ∷ codes "x n" ∷ [] ∷ [])
    ≡ (true ∷ true ∷ true ∷ true ∷ false ∷ false ∷ false ∷ [])
opening = refl

first_line : due_text [] 1 ≡ codes "B 2, the first line of a definition, or E"
first_line = refl

numbers : map number_in (codes "0" ∷ codes "12" ∷ codes "18446744073709551615" ∷ codes "18446744073709551616" ∷ [])
    ≡ (0 ∷ 12 ∷ 18446744073709551615 ∷ 18446744073709551615 ∷ [])
numbers = refl

after_the_edition : due_text (codes "B 2\nQ\n") 2 ≡ codes "the first line of a definition, or E"
after_the_edition = refl

after_the_end : due_text (codes "E\nE\n") 2 ≡ codes "nothing after E"
after_the_end = refl

-- a header with one instruction more than there are, at the line of E
one_too_many : due_text (codes "F main 0 0 0 0 3\nc 1\nr\nE\n") 4 ≡ codes "an instruction, 3 of 3 of main"
unfolding digits
one_too_many = refl

a_target : due_text (codes "F f 1 2 2 1 9\nt 0\nq\n") 3 ≡ codes "t n, target 2 of 2 of f"
unfolding digits
a_target = refl

a_string_word : due_text (codes "F f 1 2 1 1 9\nt 0\nq\n") 3 ≡ codes "w n, string word 1 of 1 of f"
unfolding digits
a_string_word = refl

a_value : due_text (codes "V v 9 2 1\nc 1\nq\n") 3 ≡ codes "c n, x name or s off, initial value 2 of 2 of v"
unfolding digits
a_value = refl

a_value_of_a_simple : due_text (codes "X n 2 0\nc 7\nq\n") 3 ≡ codes "c n, x name or s off, initial value 2 of 2 of n"
unfolding digits
a_value_of_a_simple = refl

-- after one value
a_string_word_of_a_simple : due_text (codes "X n 1 1\nc 7\nq\n") 3 ≡ codes "w n, string word 1 of 1 of n"
unfolding digits
a_string_word_of_a_simple = refl

a_string_word_of_a_vector : due_text (codes "V v 9 1 2\nc 7\nw 4\nq\n") 4 ≡ codes "w n, string word 2 of 2 of v"
unfolding digits
a_string_word_of_a_vector = refl

next_definition : due_text (codes "X n 1 0\nc 7\nc 8\n") 3 ≡ codes "the first line of a definition, or E"
next_definition = refl

unread_told : unread_text (codes "X n 1 0\nc 007\nE\n") 2
    ≡ codes "code 2\nat     line    2\n    c 007\n  wanted: c n, x name or s off, initial value 1 of 1 of n"
    ++ codes "; c n: n from 0 to 65535, without needless zeros\n"
unfolding digits
unread_told = refl

-- a text that ends without a newline
cut_told : unread_text (codes "F f 0 0 0 0 1\nr") 2
    ≡ codes "code 2\nat     line    2\n    r\n  wanted: an instruction, 1 of 1 of f; the letter alone"
    ++ codes "; the text ends in this line\n"
unfolding digits
cut_told = refl

-- a line that uses the name, with another name, another instruction, and the header of its definition
lines_with_it : map (λ line. uses line (codes "a")) (codes "x a" ∷ codes "x ab" ∷ codes "c a" ∷ codes "V a 1 0 0" ∷ [])
    ≡ (true ∷ false ∷ false ∷ false ∷ [])
lines_with_it = refl

-- the first of two lines with the name
undefined_told : unloaded_text (codes "F main 0 0 0 0 4\nx prnt\nx prnt\nk 0\nr\nE\n") (fault.Undefined (codes "prnt"))
    ≡ codes "at     line    2\n    x prnt\n  means: prnt is neither defined nor in the library\n"
unfolding digits
undefined_told = refl

twice_told : unloaded_text (codes "X n 0 0\nX n 0 0\nE\n") (fault.Duplicate (codes "n"))
    ≡ codes "  means: n is defined twice\n"
twice_told = refl

-- a text with two definitions, of which the second one has its string words at address 9
abbrev text : List ℕ
text = codes "B 2\nX n 0 0\nF main 0 0 1 1 3\nt 0\nw 4\nc 1\nc 0\nb /\nE\n"

abbrev definitions : List Definition
definitions = definition.Simple (record { name = codes "n"; values = []; strings = [] })
    ∷ definition.Function (record {
      name = codes "main";
      parameters = 0;
      frame = 0;
      targets = 0 ∷ [];
      strings = 4 ∷ [];
      code = instr.Constant 1 ∷ instr.Constant 0 ∷ instr.Binary operator.Div ∷ [];
    }) ∷ []

-- a function is found by its string words, and its instructions after its targets and string words
places_by_line : map (site_of text definitions) (9 ∷ 8 ∷ []) ≡ (record {
  name = codes "main";
  first = 6;
  instructions = 3;
} ∷ nowhere ∷ [])
places_by_line = refl

-- its place
abbrev at : (place : ℕ) → Active
at place = record { strings = 9; parameters = 0; place = place; start = 10 }

division_told : told_code_site text definitions (outcome.Trap trap.ZeroDivisor) (at 2) 3 None
    ≡ codes "at     in main     place    2  line    8  step 3\n    b /\n  means: the right operand of / or % is 0\n"
unfolding digits
division_told = refl

-- where a state comes again: after how many steps, and the place of its call
repeat_told : told_code_site text definitions outcome.Limit (at 1) 7
    (Some (record { first = 2; again = 5; call = at 0; callers = 0 }))
    ≡ codes "at     in main     place    1  line    7  step 7\n    c 0\n"
    ++ codes "  means: it never ends: after 5 steps all is as it was after 2\n"
    ++ codes "loop   in main     place    0  line    6\n    c 1\n"
unfolding digits
repeat_told = refl

-- a function of three instructions
abbrev of_three : Site
of_three = record { name = []; first = 2; instructions = 3 }

-- at the last instruction, and past it
stuck_told : map (code_meaning (outcome.Trap trap.Stuck) of_three) (2 ∷ 3 ∷ [])
    ≡ (codes "too few operands" ∷ codes "no instruction of the function is at this place" ∷ [])
stuck_told = refl

-- what each trap and the limit means; an end, a failure and want of memory have no place
meanings_told : map (λ result. code_meaning result of_three 2)
    (outcome.Trap trap.ZeroDivisor ∷ outcome.Trap trap.NotAFunction ∷ outcome.Trap trap.NotALabel
    ∷ outcome.Trap trap.NoRoom ∷ outcome.Trap trap.TooDeep ∷ outcome.Trap trap.BadBase ∷ outcome.Trap trap.Stuck
    ∷ outcome.Limit ∷ outcome.Exit 0 ∷ outcome.Device ∷ outcome.Memory ∷ [])
    ≡ (codes "the right operand of / or % is 0"
    ∷ codes "the callee below the arguments is neither 1 to 6 nor the value of a function"
    ∷ codes "the word isn't the value of a label of this function"
    ∷ codes "the frame of the called function has no room in the store"
    ∷ codes "4096 calls are active"
    ∷ codes "the base of printn isn't 2 to 10"
    ∷ codes "too few operands"
    ∷ codes "no end within so many steps; --steps N or --no-limit gives more"
    ∷ [] ∷ [] ∷ [] ∷ [])
meanings_told = refl

-- what is told of each fault of loading
abbrev main_alone : List ℕ
main_alone = codes "F main 0 0 0 0 3\nx f\nc 0\nr\nE\n"

faults_told : map (unloaded_text main_alone)
    (fault.Duplicate (codes "g") ∷ fault.TooLarge ∷ fault.Undefined (codes "f") ∷ fault.NoMain ∷ fault.Memory ∷ [])
    ≡ (codes "  means: g is defined twice\n"
    ∷ codes "  means: the data end would be above 65536, or there are more than 65535 labels\n"
    ∷ codes "at     line    2\n    x f\n  means: f is neither defined nor in the library\n"
    ∷ codes "  means: there is no function main\n"
    ∷ [] ∷ [])
unfolding digits
faults_told = refl
