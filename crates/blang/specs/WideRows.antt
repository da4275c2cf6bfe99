-- Closed facts: lists of more than a hundred, and numbers at the edges, in texts, in the layout, in the machine and in
-- what a program means; each statement done in each place of another one.
use Rattle.std.specs.Prelude.{◌≡◌, ◌+◌, ◌-◌, ◌*◌, ◌%◌, ℕ, List, [], ◌∷◌, ◌++◌, map, length, take, replicate, codes}
use Rattle.std.specs.Prelude.{Option, decimal, slice_index, Some, None, refl}
use Rattle.std.specs.Fmt.{digits}
use Rattle.std.specs.List.{range_with_len, flat_map}
use Rattle.bword.specs.Words.{zeros}
use Rattle.bword.specs.declared.operators.BinOp.TheVariants as op
use Rattle.blang.specs.declared.token.Diagnostic.{Diagnostic}
use Rattle.blang.specs.declared.token.About.TheVariants as about
use Rattle.blang.specs.declared.token.Letters.TheVariants as letters
use Rattle.blang.specs.declared.code.Instr.TheVariants as instr
use Rattle.blang.specs.declared.code.Increment.TheVariants as increments
use Rattle.blang.specs.declared.code.Ival.TheVariants as ival
use Rattle.blang.specs.declared.code.Definition as coded
use Rattle.blang.specs.declared.code.Definition.TheVariants as code
use Rattle.blang.specs.declared.run.Library.TheVariants.{Char, Lchar, Getchar, Putchar, Printn, Exit}
use Rattle.blang.specs.declared.run.Outcome.TheVariants as outcome
use Rattle.blang.specs.declared.run.Report.TheVariants as report
use Rattle.blang.specs.declared.run.Trap.{Trap}
use Rattle.blang.specs.declared.run.Trap.TheVariants.{ZeroDivisor, NotAFunction, NotALabel, NoRoom, TooDeep}
use Rattle.blang.specs.Trees.{Number, PostDecrement, Expr, Named, Literal, Called, Postfixed, Binary, Arguments}
use Rattle.blang.specs.Trees.{Assigned, No_arguments, Another, Declared, Auto, Label, Case, Stmt, Stmts, Headed}
use Rattle.blang.specs.Trees.{Compound, If, IfElse, While, Switch, Goto, Return, ReturnValue, Evaluate, Empty, Nothing}
use Rattle.blang.specs.Trees.{More, Definition, Simple, Function}
use Rattle.blang.specs.Code.{Referent, In_frame, At_label, Arms}
use Rattle.blang.specs.Text.{line}
use Rattle.blang.specs.Compiles.{compiled_text, compilation_with, compilation_of, next_text}
use Rattle.blang.specs.Layout.{World, word_at, with_word, with_words, with_output, stepped, library, callee_of}
use Rattle.blang.specs.Layout.{OfLibrary, OfProgram, parameter_words, words_before_strings, functions_in, labels_in}
use Rattle.blang.specs.Layout.{words_of_kind, value_word, padded, first_undefined, Exited, Trapped}
use Rattle.blang.specs.Layout as layout
use Rattle.blang.specs.Machine.{Loaded, Image, Call, Running, Halted, Stuck, take_call, act, step, fresh_call}
use Rattle.blang.specs.Machine.{gone_to_place, program_function_called, callee_called, main_begun, state_world, machine}
use Rattle.blang.specs.Headline.{line_at, status_at}
use Rattle.blang.specs.Machine.{State, run}
use Rattle.blang.specs.Reports.{state_outcome, called_by, report_text}
use Rattle.blang.specs.Value.{Gives, Ends, operate, Remaining, Do, Loop_mark, Switch_mark, targets, SourceFunction}
use Rattle.blang.specs.Value.{Program, Frame, body_value, call_value, name_address, name_value, Evaluator, store}
use Rattle.blang.specs.Value.{increment, Wants, Answer}
use Rattle.blang.specs.Meaning.{with_vector, with_vectors, heading_passed, case_in, arm_selected, program_of}
use Rattle.blang.specs.MeaningRows.{does}
use Rattle.blang.specs.VariantRows.{edges, operators}
use Rattle.blang.specs.WalkRows.{word, one, statements, outer}

abbrev pub bytes : List ℕ
bytes = range_with_len 0 150

-- Lines of a code text: long parts, empty ones, and many.
lines : line (bytes ∷ []) ∷ line (bytes ∷ bytes ∷ []) ∷ line ([] ∷ []) ∷ line ([] ∷ [] ∷ []) ∷ []
    ≡ (bytes ++ 10 ∷ []) ∷ (bytes ++ 32 ∷ bytes ++ 10 ∷ []) ∷ (10 ∷ []) ∷ (32 ∷ 10 ∷ []) ∷ []
lines = refl

line_of_many : line (map (λ n. n ∷ []) bytes ++ codes "x" ∷ []) ≡ flat_map (λ n. n ∷ 32 ∷ []) bytes ++ codes "x\n"
line_of_many = refl

-- What comes of definitions.
abbrev pub many : List Definition
many = map (λ n. Simple (word n) []) (range_with_len 0 150)

abbrev diagnostic : Diagnostic
diagnostic = record { letters = letters.Syntax; about = about.Nothing; line = 256 }

compilations : map (compilation_of [] many) (None ∷ Some diagnostic ∷ [])
    ≡ record { code = map compiled_text many; stop = None }
    ∷ record { code = map compiled_text many; stop = Some diagnostic } ∷ []
unfolding digits
compilations = refl

no_definitions : map (compilation_of [] []) (None ∷ Some diagnostic ∷ [])
    ≡ record { code = []; stop = None } ∷ record { code = []; stop = Some diagnostic } ∷ []
no_definitions = refl

long_texts : compilation_with None bytes (record { code = bytes ∷ []; stop = Some diagnostic })
    ≡ record { code = bytes ∷ bytes ∷ []; stop = Some diagnostic }
long_texts = refl

next_texts : next_text [] None ∷ next_text [] (Some diagnostic)
    ∷ flat_map (λ s. next_text (bytes ∷ []) s ∷ next_text ([] ∷ bytes ∷ []) s ∷ next_text (codes "a" ∷ codes "b" ∷ []) s
    ∷ []) (None ∷ Some diagnostic ∷ [])
    ≡ codes "E\n" ∷ [] ∷ bytes ∷ [] ∷ codes "a" ∷ bytes ∷ [] ∷ codes "a" ∷ []
next_texts = refl

-- The store at each edge.
abbrev pub addresses : List ℕ
addresses = 0 ∷ 1 ∷ 2 ∷ 254 ∷ 255 ∷ 256 ∷ 257 ∷ 32766 ∷ 32767 ∷ 32768 ∷ 32769 ∷ 65534 ∷ 65535 ∷ []

abbrev pub world : World
world = record { store = zeros; input = []; output = codes "o" }

abbrev empty : World
empty = record { store = []; input = []; output = codes "o" }

words_at_each : map (λ a. word_at (with_word world a 7) a) addresses ≡ replicate 13 7
unfolding zeros
words_at_each = refl

two_words_at_each : map (λ a.
    let w = with_words world a (7 ∷ 8 ∷ []) in word_at w a ∷ word_at w (a + 1) ∷ []) (take 12 addresses)
    ≡ replicate 12 (7 ∷ 8 ∷ [])
unfolding zeros
two_words_at_each = refl

many_words : (with_words (record empty { store = replicate 200 0 }) 3 bytes).store
    ≡ replicate 3 0 ++ bytes ++ replicate 47 0
many_words = refl

long_output : (with_output empty bytes).output ≡ 111 ∷ bytes
long_output = refl

-- what each operator makes of a word and 1
steps_by_each : map (λ op. stepped op 6 ∷ stepped op 7 ∷ []) operators
    ≡ (7 ∷ 7 ∷ []) ∷ (0 ∷ 1 ∷ []) ∷ (0 ∷ 0 ∷ []) ∷ (1 ∷ 1 ∷ []) ∷ (0 ∷ 0 ∷ []) ∷ (0 ∷ 0 ∷ []) ∷ (1 ∷ 1 ∷ [])
    ∷ (1 ∷ 1 ∷ []) ∷ (12 ∷ 14 ∷ []) ∷ (3 ∷ 3 ∷ []) ∷ (5 ∷ 6 ∷ []) ∷ (7 ∷ 8 ∷ []) ∷ (0 ∷ 0 ∷ []) ∷ (6 ∷ 7 ∷ [])
    ∷ (6 ∷ 7 ∷ []) ∷ []
steps_by_each = refl

-- The library looks at the first arguments of many.
abbrev many_arguments : List ℕ
many_arguments = 1 ∷ 10 ∷ 65 ∷ bytes

abbrev strings : World
strings = record { store = replicate 6 0 ++ 4660 ∷ 0 ∷ []; input = codes "i"; output = codes "o" }

calls_of_many_arguments : map (λ f. library f many_arguments strings)
    (Char ∷ Lchar ∷ Getchar ∷ Putchar ∷ Printn ∷ Exit ∷ [])
    ≡ layout.Gives 52 strings
    ∷ layout.Gives 65 (record strings { store = replicate 6 0 ++ 4673 ∷ 0 ∷ [] })
    ∷ layout.Gives 105 (record strings { input = [] })
    ∷ layout.Gives 1 (record strings { output = codes "o" ++ 1 ∷ [] })
    ∷ layout.Gives 0 (record strings { output = codes "o1" })
    ∷ layout.Ends (Exited 1) strings ∷ []
unfolding digits
calls_of_many_arguments = refl

callees_of_many : map (callee_of (range_with_len 0 65600)) (7 ∷ 8 ∷ 255 ∷ 256 ∷ 257 ∷ 32767 ∷ 32768 ∷ 65535 ∷ [])
    ≡ map OfProgram (0 ∷ 1 ∷ 248 ∷ 249 ∷ 250 ∷ 32760 ∷ 32761 ∷ 65528 ∷ [])
callees_of_many = refl

missing_parameters : map (λ n. parameter_words n []) edges ≡ map (λ n. replicate n 0) edges
missing_parameters = refl

-- The layout of functions with so many labels, and of long values.
functions_with_labels : map (λ n. words_before_strings (layout.Function n) [] ∷ functions_in (layout.Function n)
    ∷ labels_in (layout.Function n) ∷ []) edges ≡ map (λ n. 1 ∷ 1 ∷ n ∷ []) edges
functions_with_labels = refl

abbrev spot : layout.Spot
spot = record { address = 30; strings = 31; value = 7; first_label = 1 }

words_of_functions : map (λ n. words_of_kind (layout.Function n) spot []) edges ≡ map (λ n. 7 ∷ []) edges
words_of_functions = refl

words_of_vectors : words_of_kind (layout.Vector 200) spot bytes ∷ words_of_kind layout.Simple spot bytes ∷ []
    ≡ (31 ∷ bytes ++ replicate 50 0) ∷ bytes ∷ []
words_of_vectors = refl

values_beside_strings : map (λ s. map (value_word (λ x. Some 9) s) (ival.Number 5 ∷ ival.Name (codes "a") ∷ [])) edges
    ≡ map (λ s. 5 ∷ 9 ∷ []) edges
values_beside_strings = refl

padded_to_each : map (λ n. length (padded n bytes)) (0 ∷ 1 ∷ 149 ∷ 150 ∷ 151 ∷ 255 ∷ 256 ∷ 32767 ∷ 32768 ∷ 65535 ∷ [])
    ≡ 150 ∷ 150 ∷ 150 ∷ 150 ∷ 151 ∷ 255 ∷ 256 ∷ 32767 ∷ 32768 ∷ 65535 ∷ []
padded_to_each = refl

undefined_first : first_undefined (λ x. None) (map (λ n. n ∷ []) bytes) ≡ Some (0 ∷ [])
undefined_first = refl

-- The machine: calls of so many arguments.
abbrev code_of_f : Loaded
code_of_f = record { parameters = 140; frame = 200; targets = []; code = instr.Load ∷ []; strings = 3; first_label = 1 }

abbrev image : Image
image = record { functions = code_of_f ∷ []; main = Some code_of_f; words = []; data_end = 7; addresses = [] }

abbrev call : List ℕ → Call
call operands = record { function = code_of_f; start = 2; place = 0; operands = operands }

abbrev below : List Call
below = map (λ n. call (n ∷ [])) bytes

taken : map (λ n. take_call n (range_with_len 0 65600) empty (λ callee args rest.
    Running (call (callee ∷ length args ∷ slice_index args 0 ∷ length rest ∷ [])) [] empty)) edges
    ≡ map (λ n. Running (call (n ∷ n ∷ (n - 1) ∷ (65599 - n) ∷ [])) [] empty) edges
taken = refl

called_with_too_few : map (λ n. act image (call (replicate n 0)) [] empty (instr.Call n)) edges
    ≡ map (λ n. Stuck empty) edges
called_with_too_few = refl

called_with_enough : map (λ n. act image (call (replicate (n + 1) 0)) [] empty (instr.Call n)) edges
    ≡ map (λ n. Halted (Trapped NotAFunction) empty) edges
called_with_enough = refl

fresh_calls : map (λ n. fresh_call code_of_f n) edges
    ≡ map (λ n. record { function = code_of_f; start = n; place = 0; operands = [] }) edges
fresh_calls = refl

gone : gone_to_place (Some 7) (call []) bytes below empty ≡ Running (record (call bytes) { place = 7 }) below empty
gone = refl

abbrev traps : List Trap
traps = ZeroDivisor ∷ NotAFunction ∷ NotALabel ∷ NoRoom ∷ TooDeep ∷ []

refused_calls : map (λ t. program_function_called (Some t) code_of_f [] 5 (call []) below empty
    ∷ main_begun (Some t) code_of_f 5 empty ∷ []) traps ≡ map (λ t. replicate 2 (Halted (Trapped t) empty)) traps
refused_calls = refl

begun_calls : map (λ n. program_function_called None code_of_f [] n (call []) below empty
    ∷ main_begun None code_of_f n empty ∷ []) edges
    ≡ map (λ n. map (λ callers. Running (fresh_call code_of_f n) callers empty) ((call [] ∷ below) ∷ [] ∷ [])) edges
begun_calls = refl

abbrev short : World
short = record empty { store = replicate 160 9 }

parameters_stored : program_function_called None code_of_f bytes 5 (call []) below short
    ≡ Running (fresh_call code_of_f 5) (call [] ∷ below)
    (record short { store = replicate 5 9 ++ range_with_len 0 140 ++ replicate 15 9 })
parameters_stored = refl

abbrev caller : Call
caller = record (call []) { start = 0; function = record code_of_f { frame = 5 } }

called_of_program : callee_called (OfProgram code_of_f) bytes caller (take 9 below) short
    ≡ Running (fresh_call code_of_f 5) (caller ∷ take 9 below)
    (record short { store = replicate 5 9 ++ range_with_len 0 140 ++ replicate 15 9 })
called_of_program = refl

called_of_library : callee_called (OfLibrary Putchar) many_arguments (call []) below empty
    ≡ Running (call (1 ∷ [])) below (record empty { output = codes "o" ++ 1 ∷ [] })
called_of_library = refl

stepped_above_many : step image (Running (call (3 ∷ [])) below short)
    ≡ Running (record (call (9 ∷ [])) { place = 1 }) below short
stepped_above_many = refl

-- a program of 110 functions and a main one
abbrev functions : List coded.Definition
functions = map (λ n. code.Function (record {
  name = 97 ∷ n ∷ [];
  parameters = 0;
  frame = 0;
  targets = [];
  strings = [];
  code = instr.Constant 0 ∷ instr.Return ∷ [];
})) (range_with_len 0 110)

abbrev main_function : coded.Definition
main_function = code.Function (record {
  name = codes "main";
  parameters = 0;
  frame = 0;
  targets = [];
  strings = [];
  code = instr.Constant 0 ∷ instr.Return ∷ [];
})

words_of_many_functions : take 118 (state_world (machine (functions ++ main_function ∷ []) [] 0)).store
    ≡ range_with_len 0 118
words_of_many_functions = refl

-- Reports.
exit_statuses : map (λ n. state_outcome (Halted (Exited n) empty)) edges ≡ map outcome.Exit edges
exit_statuses = refl

-- the line and the status of a program that has ended by itself
ended : map (λ n. line_at (Exited n)) edges ≡ map (λ n. []) edges
ended = refl

ended_with : map (λ n. status_at (Exited n)) edges ≡ edges
ended_with = refl

-- so many steps of two instructions without an end
abbrev endless : Image
endless = record image {
  main = Some (record code_of_f { parameters = 0; frame = 0; code = instr.Jump 1 ∷ instr.Jump 2 ∷ instr.Jump 0 ∷ [] });
}

abbrev place_of : State → Option ℕ
place_of (Running c callers w) = Some c.place
place_of s = None

places_after : map (λ n. place_of (run endless [] n)) (255 ∷ 256 ∷ 257 ∷ 32767 ∷ 32768 ∷ 32769 ∷ 65535 ∷ 65536 ∷ [])
    ≡ map Some (0 ∷ 1 ∷ 2 ∷ 1 ∷ 2 ∷ 0 ∷ 0 ∷ 1 ∷ [])
places_after = refl

called_by_each : map (λ n. called_by (range_with_len 0 65600) (instr.Call n)) edges ≡ map Some edges
called_by_each = refl

called_by_none : called_by [] (instr.Call 0) ∷ called_by [] instr.Load ∷ called_by bytes instr.Load ∷ []
    ≡ replicate 3 None
called_by_none = refl

reports : map (λ n. report_text (report.Code n) ∷ report_text (report.Load n) ∷ []) edges
    ≡ map (λ n. (codes "code " ++ decimal n ++ 10 ∷ []) ∷ (codes "load " ++ decimal n ++ 10 ∷ []) ∷ []) edges
unfolding digits
reports = refl

-- What a program means: words, names, calls.
operated : map (λ n. operate op.Or 0 n empty ∷ operate op.Or n 0 empty ∷ []) (take 14 edges)
    ≡ map (λ n. replicate 2 (Gives n empty)) (take 14 edges)
operated = refl

abbrev source : SourceFunction
source = record {
  parameters = map (λ n. word n) (range_with_len 0 128);
  body = Return;
  strings = 3;
  first_label = 1;
}

abbrev program : Program
program = record { functions = source ∷ []; main = None; words = []; data_end = 7; addresses = [] }

abbrev frame : Frame
frame = record { function = source; start = 0; active = 1 }

labels_of_names : map (λ n. name_address program None frame (At_label n) (codes "a") empty
    ∷ name_value program None frame (At_label n) (codes "a") empty ∷ []) edges
    ≡ map (λ n. replicate 2 (Gives ((1 + n) % 65536) empty)) edges
labels_of_names = refl

refused_bodies : map (λ t. body_value program None frame (Some t) source [] 5 empty) traps
    ≡ map (λ t. Ends (Trapped t) empty) traps
refused_bodies = refl

library_of_many : call_value program None frame (OfLibrary Putchar) many_arguments empty
    ≡ Gives 1 (record empty { output = codes "o" ++ 1 ∷ [] })
library_of_many = refl

-- a call's body begins with its parameters stored, in a frame of its own
abbrev seen : Evaluator
seen = record { value = λ f e w. Wants w; go_on = λ f r w. Gives f.start w }

bodies_begun : map (λ n. body_value program (Some seen) frame None source [] n empty) edges
    ≡ map (λ n. Gives n empty) edges
bodies_begun = refl

arguments_stored : body_value program (Some seen) frame None source bytes 5 short
    ≡ Gives 5 (record short { store = replicate 5 9 ++ range_with_len 0 128 ++ replicate 27 9 })
arguments_stored = refl

function_called : call_value program (Some seen) frame (OfProgram source) bytes
    (record empty { store = replicate 300 9 })
    ≡ Gives 128 (record empty { store = replicate 128 9 ++ range_with_len 0 128 ++ replicate 44 9 })
function_called = refl

-- what is stored at each address, and what that gives
abbrev given : ℕ → Answer ℕ → List ℕ
given a (Gives v w) = v ∷ word_at w a ∷ []
given a answer = []

stored : map (λ a. given a (store a 7 world)) addresses ≡ replicate 13 (7 ∷ 7 ∷ [])
unfolding zeros
stored = refl

incremented : map (λ a. given a (increment increments.PreIncrement a world)
    ++ given a (increment increments.PostIncrement a world)) addresses ≡ replicate 13 (1 ∷ 1 ∷ 0 ∷ 1 ∷ [])
unfolding zeros
incremented = refl

-- Vectors in a frame.
vectors_by_place : map (λ k. word_at (with_vector (In_frame k) (Some 3) 0 world) k) addresses
    ≡ map (λ k. (k + 1) % 65536) addresses
unfolding zeros
vectors_by_place = refl

vectors_by_start : map (λ s. word_at (with_vector (In_frame 0) (Some 3) s world) s) addresses
    ≡ map (λ s. (s + 1) % 65536) addresses
unfolding zeros
vectors_by_start = refl

abbrev pub by_number : List ℕ → Referent
by_number x = In_frame (slice_index x 1)

abbrev pub vector : ℕ → Declared
vector n = record { word = word n; size = Some 1 }

many_vectors : (with_vectors by_number (map vector (range_with_len 0 120)) 0
    (record empty { store = replicate 300 0 })).store ≡ range_with_len 1 120 ++ replicate 180 0
many_vectors = refl

vectors_from_each_start : map (λ s. word_at (with_vectors by_number (vector 0 ∷ vector 1 ∷ []) s world) (s + 1))
    (take 12 addresses) ≡ map (λ s. (s + 2) % 65536) (take 12 addresses)
unfolding zeros
vectors_from_each_start = refl

abbrev of_vectors : SourceFunction
of_vectors = record {
  parameters = [];
  body = Headed (Auto (map vector (range_with_len 0 120))) Empty;
  strings = 3;
  first_label = 1;
}

vectors_of_a_heading : (heading_passed (Auto (map vector (range_with_len 0 120)))
    (record { function = of_vectors; start = 0; active = 1 }) (record empty { store = replicate 400 0 })).store
    ≡ flat_map (λ n. (3 * n + 1) ∷ 0 ∷ 0 ∷ []) (range_with_len 0 120) ++ replicate 40 0
vectors_of_a_heading = refl

-- The case that is taken, whatever the word.
abbrev here : Remaining
here = Do Return ∷ []

abbrev arms : ℕ → Arms Remaining
arms v = (None, Do Empty ∷ []) ∷ (Some (v + 1), Loop_mark ∷ []) ∷ (Some v, here) ∷ []

cases_taken : map (λ v. case_in v (arms v) []) edges ≡ map (λ v. here) edges
cases_taken = refl

arms_taken : map (λ v. arm_selected v (arms v) []) edges ≡ map (λ v. here) edges
arms_taken = refl

defaults_taken : map (λ v. arm_selected v ((None, here) ∷ (Some (v + 1), Loop_mark ∷ []) ∷ []) []) edges
    ≡ map (λ v. here) edges
defaults_taken = refl

-- What the labels before each statement lead to, in each place of another one.
abbrev labelled : List Stmt
labelled = statements ++ map (λ f. f (Headed (Label (word 9)) Return)) outer

abbrev rest : Remaining
rest = Do (Evaluate one) ∷ []

abbrev labels : Stmt → Remaining → List Remaining
labels s r = (targets s r).labels

labels_within : map (λ s. map (λ f. labels (f s) rest) outer) labelled
    ≡ map (λ s. ((Do s ∷ rest) ∷ labels s rest) ∷ labels s (Do Empty ∷ rest) ∷ labels s rest ∷ labels s rest
    ∷ labels s rest ∷ labels s (Loop_mark ∷ Do (While one s) ∷ rest) ∷ labels s (Switch_mark ∷ rest) ∷ []) labelled
labels_within = refl

labels_in_each : map (λ f. labels (f (Headed (Label (word 9)) Return)) rest) outer
    ≡ ((Do (Headed (Label (word 9)) Return) ∷ rest) ∷ (Do Return ∷ rest) ∷ [])
    ∷ ((Do Return ∷ Do Empty ∷ rest) ∷ []) ∷ ((Do Return ∷ rest) ∷ []) ∷ ((Do Return ∷ rest) ∷ [])
    ∷ ((Do Return ∷ rest) ∷ [])
    ∷ ((Do Return ∷ Loop_mark ∷ Do (While one (Headed (Label (word 9)) Return)) ∷ rest) ∷ [])
    ∷ ((Do Return ∷ Switch_mark ∷ rest) ∷ []) ∷ []
labels_in_each = refl

abbrev source_functions : List Definition
source_functions = map (λ n. Function (word n) (map word (range_with_len 200 n)) Return) (range_with_len 0 110)

functions_of_many : map (λ (f : SourceFunction). length f.parameters) (program_of source_functions).functions
    ≡ range_with_len 0 110
functions_of_many = refl

-- Each statement done in each place of another one: f(){auto i, j; i=2; j=1; S putchar('z'); l: putchar('l');} where S
-- is the statement, main(){printn(f(),10);}
abbrev pub calls : List ℕ → List Expr → Expr
calls f es = Called (Named (record { text = f; line = 1 })) (arguments_after No_arguments es)
  where
    arguments_after : Arguments → List Expr → Arguments
    arguments_after before [] = before
    arguments_after before (e ∷ es) = arguments_after (Another before e) es

abbrev pub number : ℕ → Expr
number n = Literal (Number n)

abbrev pub named : List ℕ → Expr
named x = Named (record { text = x; line = 1 })

abbrev pub block : Stmts → List Stmt → Stmts
block before [] = before
block before (s ∷ ss) = block (More before s) ss

abbrev pub putchar : ℕ → Expr
putchar n = calls (codes "putchar") (number n ∷ [])

abbrev done : List Stmt
done =
    If (putchar 97) (Evaluate (putchar 98))
    ∷ While (named (codes "i")) (Evaluate (calls (codes "putchar")
    (Binary op.Add 1 (number 48) (Postfixed PostDecrement 1 (named (codes "i"))) ∷ [])))
    ∷ Goto (named (codes "l")) ∷ Return ∷ ReturnValue (number 7) ∷ Evaluate (putchar 101) ∷ Empty ∷ []

abbrev counted_down : Expr
counted_down = Postfixed PostDecrement 1 (named (codes "j"))

abbrev places : List (Stmt → Stmt)
places =
    Headed (Label (record { text = codes "m"; line = 1 })) ∷ (λ s. Compound (More (More Nothing s) Empty))
    ∷ If (number 1) ∷ (λ s. IfElse (number 1) s Empty) ∷ IfElse (number 0) Empty ∷ While counted_down
    ∷ (λ s. Switch (number 1) (More (More Nothing (Headed (Case 1 (Number 1)) Empty)) s)) ∷ []

abbrev set : List ℕ → ℕ → Stmt
set x n = Evaluate (Assigned None 1 (named x) (number n))

abbrev of_place : Stmt → List Definition
of_place s =
    Function (record { text = codes "f"; line = 1 }) [] (Headed (Auto (local (codes "i") ∷ local (codes "j") ∷ []))
    (Compound (block Nothing (set (codes "i") 2 ∷ set (codes "j") 1 ∷ s ∷ Evaluate (putchar 122)
    ∷ Headed (Label (record { text = codes "l"; line = 1 })) (Evaluate (putchar 108)) ∷ []))))
    ∷ Function (record { text = codes "main"; line = 1 }) []
    (Evaluate (calls (codes "printn") (calls (codes "f") [] ∷ number 10 ∷ []))) ∷ []
  where
    local : List ℕ → Declared
    local x = record { word = record { text = x; line = 1 }; size = None }

done_in_each_place : map (λ s. map (λ f. does (of_place (f s)) [] 9) places) done
    ≡ map (λ text. replicate 7 (Some (Exited 0), text)) (codes "abzl0" ∷ codes "21zl0" ∷ codes "l0" ∷ codes "0"
    ∷ codes "7" ∷ codes "ezl0" ∷ codes "zl0" ∷ [])
unfolding digits
done_in_each_place = refl

-- the body of a loop is done once for each fuel
steps_for_fuel : map (λ n. length (does (Function (record { text = codes "main"; line = 1 }) []
    (While (number 1) (Evaluate (putchar 120))) ∷ []) [] n).1) (0 ∷ 1 ∷ 2 ∷ 9 ∷ 10 ∷ 100 ∷ 255 ∷ 256 ∷ 257 ∷ [])
    ≡ 0 ∷ 1 ∷ 2 ∷ 9 ∷ 10 ∷ 100 ∷ 255 ∷ 256 ∷ 257 ∷ []
steps_for_fuel = refl
