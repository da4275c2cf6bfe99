-- Closed facts: the value of each kind of expression, at the least and greatest words and those around 128, 256 and
-- 32768.
use Rattle.std.specs.Prelude.{◌≡◌, ◌+◌, ℕ, List, [], ◌∷◌, ◌++◌, map, replicate, codes, Option, Some, None, refl}
use Rattle.std.specs.List.{range_with_len}
use Rattle.bword.specs.declared.operators.BinOp.TheVariants as op
use Rattle.bword.specs.Words.{operators}
use Rattle.blang.specs.declared.run.Trap.TheVariants.{ZeroDivisor, NotAFunction, NoRoom, TooDeep}
use Rattle.blang.specs.Layout.{World, Exited, Trapped, word_at}
use Rattle.blang.specs.MachineRows.{edges, made}
use Rattle.blang.specs.MeaningRows.{arguments_after, name, number, word}
use Rattle.blang.specs.Trees.{Character, Expr, Arguments, Negate, Not, Indirection, Address, PreIncrement, PreDecrement}
use Rattle.blang.specs.Trees.{PostIncrement, PostDecrement, Literal, Text, Grouped, Indexed, Called, Auto, Stmt}
use Rattle.blang.specs.Trees.{Postfixed, Prefixed, Binary, Conditional, Assigned, No_arguments, Headed, Label, Empty}
use Rattle.blang.specs.Value.{Answer, Gives, Ends, Wants, SourceFunction, Program, Frame, Evaluator, value, values}

-- f(p, q) l: ; with string words from 30 on, and its label's value
abbrev function : ℕ → SourceFunction
function first = record {
  parameters = word (codes "p") ∷ word (codes "q") ∷ [];
  body = Headed (Label (word (codes "l"))) Empty;
  strings = 30;
  first_label = first;
}

-- nine parameters
abbrev nine : SourceFunction
nine = record {
  parameters = map (λ i. word (97 ∷ i ∷ [])) (range_with_len 0 9);
  body = Empty;
  strings = 0;
  first_label = 1;
}

-- x lies at word 2
abbrev program : Program
program = record { functions = nine ∷ []; main = None; words = []; data_end = 7; addresses = (codes "x", 2) ∷ [] }

abbrev frame : ℕ → Frame
frame start = record { function = function 5; start = start; active = 1 }

abbrev world : World
world = record { store = 7 ∷ 8 ∷ 9 ∷ []; input = []; output = [] }

-- the word of an expression where the frame begins at word 0
abbrev of_word : Expr → World → Answer ℕ
of_word e = value program None (frame 0) e

-- Each expression gives the word at its place, and changes nothing.
abbrev Are : (ℕ → Expr) → List ℕ → Type 0
Are e words = map (λ n. of_word (e n) world) edges ≡ map (λ v. Gives v world) words

numbers : Are number edges
numbers = refl

characters : Are (λ n. Literal (Character n)) edges
characters = refl

in_parentheses : Are (λ n. Grouped (number n)) edges
in_parentheses = refl

strings : Are (Text []) (30 ∷ 31 ∷ 34 ∷ 40 ∷ 43 ∷ 157 ∷ 158 ∷ 285 ∷ 286 ∷ 32797 ∷ 32798 ∷ 28 ∷ 29 ∷ [])
strings = refl

negatives : Are (λ n. Prefixed Negate 1 (number n)) (0 ∷ 65535 ∷ 65532 ∷ 65526 ∷ 65523 ∷ 65409 ∷ 65408 ∷ 65281 ∷ 65280
    ∷ 32769 ∷ 32768 ∷ 2 ∷ 1 ∷ [])
negatives = refl

nots : Are (λ n. Prefixed Not 1 (number n)) (1 ∷ replicate 12 0)
nots = refl

-- each word but 0 is true
choices : Are (λ n. Conditional (number n) (number 1) (number 2)) (2 ∷ replicate 12 1)
choices = refl

-- the address of an element, whichever side is which
elements : map (λ m. map (λ n. of_word (Prefixed Address 1 (Indexed (number m) (number n))) world) edges) (1 ∷ 32768
    ∷ 65535 ∷ [])
    ≡ map (map (λ v. Gives v world)) (
    (1 ∷ 2 ∷ 5 ∷ 11 ∷ 14 ∷ 128 ∷ 129 ∷ 256 ∷ 257 ∷ 32768 ∷ 32769 ∷ 65535 ∷ 0 ∷ [])
    ∷ (32768 ∷ 32769 ∷ 32772 ∷ 32778 ∷ 32781 ∷ 32895 ∷ 32896 ∷ 33023 ∷ 33024 ∷ 65535 ∷ 0 ∷ 32766 ∷ 32767 ∷ [])
    ∷ (65535 ∷ 0 ∷ 3 ∷ 9 ∷ 12 ∷ 126 ∷ 127 ∷ 254 ∷ 255 ∷ 32766 ∷ 32767 ∷ 65533 ∷ 65534 ∷ []) ∷ [])
elements = refl

-- the addresses of p, q and x, where the frame begins at each of these words, and what stands there
addresses_of_p : map (λ s. value program None (frame s) (Prefixed Address 1 (name (codes "p"))) world) edges
    ≡ map (λ v. Gives v world) edges
addresses_of_p = refl

addresses_of_q : map (λ s. value program None (frame s) (Prefixed Address 1 (name (codes "q"))) world) edges
    ≡ map (λ v. Gives v world) (1 ∷ 2 ∷ 5 ∷ 11 ∷ 14 ∷ 128 ∷ 129 ∷ 256 ∷ 257 ∷ 32768 ∷ 32769 ∷ 65535 ∷ 0 ∷ [])
addresses_of_q = refl

address_of_x : map (λ e. of_word e world) (Prefixed Address 1 (name (codes "x")) ∷ name (codes "x") ∷ [])
    ≡ Gives 2 world ∷ Gives 9 world ∷ []
address_of_x = refl

-- a label is its value
labels : map (λ n. value program None (record { function = function n; start = 0; active = 1 })
    (name (codes "l")) world) edges
    ≡ map (λ v. Gives v world) edges
labels = refl

-- a store with each word at the address of its number
abbrev holding : World
holding = record world { store = edges }

fetched : map (λ k. of_word (Prefixed Indirection 1 (number k)) holding) (range_with_len 0 13)
    ≡ map (λ v. Gives v holding) edges
fetched = refl

elements_fetched : map (λ k. of_word (Indexed (number 65535) (number (k + 1))) holding) (range_with_len 0 13)
    ≡ map (λ v. Gives v holding) edges
elements_fetched = refl

variables : map (λ k. value program None (frame k) (name (codes "p")) holding) (range_with_len 0 13)
    ≡ map (λ v. Gives v holding) edges
variables = refl

-- What `++` and `--` give and store; the word after it stays.
abbrev with_p : ℕ → World
with_p v = record world { store = v ∷ 8 ∷ [] }

abbrev Counts : (Expr → Expr) → List ℕ → List ℕ → Type 0
Counts op given stored =
    map (λ v. of_word (op (name (codes "p"))) (with_p v)) edges ≡ pairs given stored
  where
    pairs : List ℕ → List ℕ → List (Answer ℕ)
    pairs [] stored = []
    pairs given [] = []
    pairs (g ∷ gs) (s ∷ ss) = Gives g (with_p s) ∷ pairs gs ss

increments : Counts (Prefixed PreIncrement 1) (1 ∷ 2 ∷ 5 ∷ 11 ∷ 14 ∷ 128 ∷ 129 ∷ 256 ∷ 257 ∷ 32768 ∷ 32769 ∷ 65535 ∷ 0
    ∷ []) (1 ∷ 2 ∷ 5 ∷ 11 ∷ 14 ∷ 128 ∷ 129 ∷ 256 ∷ 257 ∷ 32768 ∷ 32769 ∷ 65535 ∷ 0 ∷ [])
increments = refl

decrements : Counts (Prefixed PreDecrement 1) (65535 ∷ 0 ∷ 3 ∷ 9 ∷ 12 ∷ 126 ∷ 127 ∷ 254 ∷ 255 ∷ 32766 ∷ 32767 ∷ 65533
    ∷ 65534 ∷ []) (65535 ∷ 0 ∷ 3 ∷ 9 ∷ 12 ∷ 126 ∷ 127 ∷ 254 ∷ 255 ∷ 32766 ∷ 32767 ∷ 65533 ∷ 65534 ∷ [])
decrements = refl

increments_after : Counts (Postfixed PostIncrement 1) edges (1 ∷ 2 ∷ 5 ∷ 11 ∷ 14 ∷ 128 ∷ 129 ∷ 256 ∷ 257 ∷ 32768
    ∷ 32769 ∷ 65535 ∷ 0 ∷ [])
increments_after = refl

decrements_after : Counts (Postfixed PostDecrement 1) edges (65535 ∷ 0 ∷ 3 ∷ 9 ∷ 12 ∷ 126 ∷ 127 ∷ 254 ∷ 255 ∷ 32766
    ∷ 32767 ∷ 65533 ∷ 65534 ∷ [])
decrements_after = refl

-- Each operator on two words, and what it makes of them.
binaries : map (λ r. map (λ op. of_word (Binary op 1 (number r.0) (number r.1)) world) operators) made
    ≡ map (λ r. map (λ v. Gives v world) r.2) made
binaries = refl

modified : map (λ r. map
    (λ op. of_word (Assigned (Some op) 1 (name (codes "p")) (number r.1)) (with_p r.0)) operators) made
    ≡ map (λ r. map (λ v. Gives v (with_p v)) r.2) made
modified = refl

assigned : map (λ v. of_word (Assigned None 1 (name (codes "p")) (number v)) (with_p 3)) edges
    ≡ map (λ v. Gives v (with_p v)) edges
assigned = refl

by_zero : map (λ op. of_word (Binary op 1 (number 5) (number 0)) world
    ∷ of_word (Assigned (Some op) 1 (name (codes "p")) (number 0)) world ∷ [])
    (op.Rem ∷ op.Div ∷ []) ≡ replicate 2 (replicate 2 (Ends (Trapped ZeroDivisor) world))
by_zero = refl

abbrev numbered : ℕ → Arguments
numbered n = arguments_after No_arguments (map number (range_with_len 1 n))

arguments : map (λ n. values program None (frame 0) (numbered n) world) (range_with_len 0 13)
    ≡ map (λ n. Gives (range_with_len 1 n) world) (range_with_len 0 13)
arguments = refl

-- 1 to 6 are the library, of which `putchar` is 4, and 7 is the function, which wants fuel.
abbrev of_call : ℕ → Answer ℕ
of_call v = of_word (Called (number v) No_arguments) world

called : map of_call (0 ∷ 1 ∷ 3 ∷ 4 ∷ 6 ∷ 7 ∷ 8 ∷ 9 ∷ 255 ∷ 256 ∷ 32768 ∷ 65535 ∷ [])
    ≡ Ends (Trapped NotAFunction) world ∷ Gives 7 world
    ∷ Gives 4 world ∷ Gives 0 (record world { output = 0 ∷ [] }) ∷ Ends (Exited 0) world ∷ Wants world
    ∷ replicate 6 (Ends (Trapped NotAFunction) world)
called = refl

-- With fuel the nine parameters are stored after the caller's two words, and the call is one more.
abbrev evaluator : Evaluator
evaluator = record { value = λ f e w. Wants w; go_on = λ f rest w. Gives (f.start + f.active) w }

nine_parameters : map
    (λ n. value program (Some evaluator) (frame 1) (Called (number 7) (numbered n))
    (record world { store = replicate 14 0 })) (12 ∷ 9 ∷ 2 ∷ [])
    ≡ map (λ ws. Gives 5 (record world { store = 0 ∷ 0 ∷ 0 ∷ ws ++ 0 ∷ 0 ∷ [] }))
    (range_with_len 1 9 ∷ range_with_len 1 9 ∷ (1 ∷ 2 ∷ replicate 7 0) ∷ [])
nine_parameters = refl

-- A call is refused where 4096 are active, and then where its frame of nine words ends after word 65535.
refused : map (λ (p : ℕ × ℕ). value program (Some evaluator)
    (record { function = function 5; start = p.0; active = p.1 }) (Called (number 7) No_arguments)
    (record world { store = [] })) ((65525, 1) ∷ (65526, 1) ∷ (0, 4095) ∷ (0, 4096) ∷ (65526, 4096) ∷ [])
    ≡ map (λ e. e (record world { store = [] })) (Gives 65529 ∷ Ends (Trapped NoRoom) ∷ Gives 4098
    ∷ Ends (Trapped TooDeep) ∷ Ends (Trapped TooDeep) ∷ [])
refused = refl

-- A word that an expression gives, and the word that it leaves at an address.
abbrev given : Answer ℕ → Option ℕ
given (Gives v w) = Some v
given e = None

abbrev left_at : ℕ → Answer ℕ → Option ℕ
left_at a (Gives v w) = Some (word_at w a)
left_at a e = None

-- at each address, in a store whose words are their addresses
abbrev whole : World
whole = record world { store = range_with_len 0 65536 }

abbrev word_of : ℕ → Expr
word_of a = Prefixed Indirection 1 (number a)

fetched_at_each : map (λ a. given (of_word (word_of a) whole)) edges ≡ map Some edges
fetched_at_each = refl

stored_at_each : map (λ a. left_at a (of_word (Assigned None 1 (word_of a) (number 5)) whole)) edges
    ≡ replicate 13 (Some 5)
stored_at_each = refl

modified_at_each : map (λ a. left_at a (of_word (Assigned (Some op.And) 1 (word_of a) (number 0)) whole)) edges
    ≡ replicate 13 (Some 0)
modified_at_each = refl

counted_at_each : map (λ a. left_at a (of_word (Prefixed PreIncrement 1 (word_of a)) whole)) edges
    ≡ map Some (1 ∷ 2 ∷ 5 ∷ 11 ∷ 14 ∷ 128 ∷ 129 ∷ 256 ∷ 257 ∷ 32768 ∷ 32769 ∷ 65535 ∷ 0 ∷ [])
counted_at_each = refl

made_each : map (λ v. of_word (Binary op.Or 1 (number v) (number 0)) world) edges ≡ map (λ v. Gives v world) edges
made_each = refl

-- a variable at each word of a frame: b after the vector a of this constant
abbrev with_vector : ℕ → SourceFunction
with_vector c = record {
  parameters = [];
  body = Headed (Auto (record { word = word (codes "a"); size = Some c }
      ∷ record { word = word (codes "b"); size = None } ∷ [])) Empty;
  strings = 0;
  first_label = 1;
}

frame_words_each : map
    (λ c. given (value program None (record { function = with_vector c; start = 0; active = 1 })
    (name (codes "b")) whole))
    (0 ∷ 125 ∷ 126 ∷ 253 ∷ 254 ∷ 32765 ∷ 32766 ∷ 65533 ∷ 65534 ∷ [])
    ≡ map Some (2 ∷ 127 ∷ 128 ∷ 255 ∷ 256 ∷ 32767 ∷ 32768 ∷ 65535 ∷ 0 ∷ [])
frame_words_each = refl

-- twelve labels of one function
abbrev labelled : List (List ℕ) → Stmt
labelled [] = Empty
labelled (x ∷ xs) = Headed (Label (word x)) (labelled xs)

abbrev label_names : List (List ℕ)
label_names = map (λ i. 97 ∷ i ∷ []) (range_with_len 0 12)

twelve_labels : map (λ x. given (value program None (record {
  function = record { parameters = []; body = labelled label_names; strings = 0; first_label = 250 };
  start = 0;
  active = 1;
}) (name x) world)) label_names ≡ map Some (range_with_len 250 12)
twelve_labels = refl

-- where the frame of a call begins, two words after that of its caller, and how many calls are active then
frames_of_calls : map
    (λ s. given (value program (Some evaluator) (frame s) (Called (number 7) No_arguments)
    (record world { store = [] })))
    (0 ∷ 1 ∷ 255 ∷ 256 ∷ 32767 ∷ 32768 ∷ 65525 ∷ []) ≡ map Some (4 ∷ 5 ∷ 259 ∷ 260 ∷ 32771 ∷ 32772 ∷ 65529 ∷ [])
frames_of_calls = refl

active_calls : map (λ n. given
    (value program (Some evaluator) (record { function = function 5; start = 0; active = n })
    (Called (number 7) No_arguments)
    (record world { store = [] }))) (1 ∷ 255 ∷ 256 ∷ 4094 ∷ 4095 ∷ 4096 ∷ [])
    ≡ map Some (4 ∷ 258 ∷ 259 ∷ 4097 ∷ 4098 ∷ []) ++ None ∷ []
active_calls = refl

many_arguments : values program None (frame 0) (numbered 130) world ≡ Gives (range_with_len 1 130) world
many_arguments = refl
