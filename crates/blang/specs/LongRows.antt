-- Closed facts: long lists: 128 names and 130 definitions, 256 cases and a default, 12 labels, 9 parameters and 128 of
-- them, a string of 254 characters. Each element counts, the first one and the last one.
use Rattle.std.specs.Prelude.{◌≡◌, ◌+◌, ◌-◌, ◌*◌, ◌/◌, ℕ, Bool, true, false, List, [], ◌∷◌, ◌++◌, map, replicate}
use Rattle.std.specs.Prelude.{length, take, drop, codes, Some, None, Result, Ok, Err, refl}
use Rattle.std.specs.List.{range_with_len, flat_map}
use Rattle.bword.specs.ByteEnds.{most}
use Rattle.bword.specs.declared.operators.BinOp.TheVariants as op
use Rattle.blang.specs.declared.token.Letters.{Letters}
use Rattle.blang.specs.declared.token.Letters.TheVariants as letters
use Rattle.blang.specs.declared.token.About.{About}
use Rattle.blang.specs.declared.token.About.TheVariants as about
use Rattle.blang.specs.declared.token.Diagnostic.{Diagnostic}
use Rattle.blang.specs.declared.code.Definition.{Definition}
use Rattle.blang.specs.declared.code.Instr.{Instr}
use Rattle.blang.specs.declared.code.Ival.{Ival}
use Rattle.blang.specs.declared.code.Definition.TheVariants as definition
use Rattle.blang.specs.declared.code.Increment.TheVariants as increment
use Rattle.blang.specs.declared.code.Instr.TheVariants as instr
use Rattle.blang.specs.declared.code.Ival.TheVariants as ival
use Rattle.blang.specs.declared.run.LoadFault.TheVariants as fault
use Rattle.blang.specs.Trees as tree
use Rattle.blang.specs.Trees.{Identifier, Expr, Named, Called, No_arguments, Arguments, Another, Stmt, Stmts, More}
use Rattle.blang.specs.Trees.{Headed, Label, Goto, Compound, ReturnValue, Function}
use Rattle.blang.specs.Walk.{Event, AutoHere, ExtrnHere, Mention, LabelHere, CaseHere, DefaultHere, BreakHere}
use Rattle.blang.specs.Walk.{LvalueWanted}
use Rattle.blang.specs.Scan.{Entry, Automatic, External, Unlabelled, Labelled, Scope, no_scope, scan_event, kind_of}
use Rattle.blang.specs.Scan.{undefined, scan, automatic_words, is_place, is_lvalue}
use Rattle.blang.specs.WellFormed.{packed}
use Rattle.blang.specs.Code.{Arms, arms_code, code_of}
use Rattle.blang.specs.Layout.{shape_of, Spot, spots, data_end, addresses, address_in, first_words, duplicate_after}
use Rattle.blang.specs.Layout.{first_undefined, load_fault, name_in_instr, names_in, size_of, words_before_strings}
use Rattle.blang.specs.Layout.{words_of_kind, labels_in, first_world, word_at, LaidOut}
use Rattle.blang.specs.Layout as layout

-- the name with this number, and so many of them
abbrev name : ℕ → List ℕ
name i = 97 ∷ i ∷ []

abbrev names : ℕ → List (List ℕ)
names n = map name (range_with_len 0 n)

-- on line 4
abbrev word : ℕ → Identifier
word i = record { text = name i; line = 4 }

-- The names of a function: each with the kind of its number.
abbrev entry : ℕ → Entry
entry i = record { name = name i; kind = Automatic i }

abbrev table : ℕ → List Entry
table n = map entry (range_with_len 0 n)

abbrev told : Letters → About → Result Scope Diagnostic
told l about = Err (record { letters = l; about = about; line = 4 })

kinds : map (λ x. kind_of x (table 128)) (names 130) ≡ map (λ i. Some (Automatic i)) (range_with_len 0 128) ++ None
    ∷ None ∷ []
kinds = refl

-- each of 127 is declared twice, in each way
declared_twice : map (λ e. map (λ i. scan_event (e (word i)) (record no_scope { names = table 127 }))
    (range_with_len 0 127))
    ((λ w. AutoHere w None) ∷ ExtrnHere ∷ LabelHere ∷ [])
    ≡ replicate 3 (map (λ i. told letters.Redeclared (about.Name (name i))) (range_with_len 0 127))
declared_twice = refl

-- and of 128; a further one is too many
of_128 : map (λ i. scan_event (AutoHere (word i) None) (record no_scope { names = table 128 })) (range_with_len 0 130)
    ≡ map (λ i. told letters.Redeclared (about.Name (name i))) (range_with_len 0 128)
    ++ replicate 2 (told letters.TooManyNames about.Nothing)
of_128 = refl

-- some places among them, the first ones and the last one
abbrev places : List ℕ
places = 0 ∷ 1 ∷ 9 ∷ 10 ∷ 63 ∷ 99 ∷ 100 ∷ 126 ∷ 127 ∷ []

-- where there are fewer there is room, and the new name comes last
room : map (λ n. scan_event (ExtrnHere (word 200)) (record no_scope { names = table n })) places
    ≡ map (λ n. Ok (record no_scope { names = table n ++ record { name = name 200; kind = External } ∷ [] })) places
room = refl

-- mentioned once more, each is as before
mentioned_again : map (λ i. scan_event (Mention true (word i)) (record no_scope { names = table 128 })) places
    ≡ replicate 9 (Ok (record no_scope { names = table 128 }))
mentioned_again = refl

-- each of 128 gets its label
abbrev with_one_internal : ℕ → List Entry
with_one_internal i = take i (table 128) ++ record { name = name i; kind = Unlabelled 9 } ∷ drop (i + 1) (table 128)

labelled : map (λ i. scan_event (LabelHere (word i)) (record no_scope { names = with_one_internal i })) places
    ≡ map (λ i. Ok (record no_scope {
      names = take i (table 128) ++ record { name = name i; kind = Labelled 0 } ∷ drop (i + 1) (table 128);
      labels = 1;
    })) places
labelled = refl

-- and each is told that has none, the first one of them
unlabelled : map (λ i. undefined (with_one_internal i)) places
    ≡ map (λ i. Some (record { letters = letters.Undefined; about = about.Name (name i); line = 9 })) places
unlabelled = refl

-- the line of a name, and of a case, is kept
abbrev lines : List ℕ
lines = 1 ∷ 4 ∷ 10 ∷ 13 ∷ 127 ∷ 128 ∷ 255 ∷ 256 ∷ 32767 ∷ 32768 ∷ 65535 ∷ 65536 ∷ most ∷ []

abbrev at_line : Letters → About → ℕ → Result Scope Diagnostic
at_line l about n = Err (record { letters = l; about = about; line = n })

lines_of_faults : map (λ e. map (λ n. scan_event (e n) (record no_scope { names = entry 0 ∷ [] })) lines)
    ((λ n. AutoHere (record { text = name 0; line = n }) None) ∷ (λ n. CaseHere n 7) ∷ DefaultHere ∷ BreakHere ∷ [])
    ≡ map (λ f. map f lines) (
    at_line letters.Redeclared (about.Name (name 0)) ∷ at_line letters.Syntax about.Case
    ∷ at_line letters.Syntax about.Default
    ∷ at_line letters.Syntax about.Break ∷ [])
lines_of_faults = refl

line_of_a_mention : map (λ n. scan_event (Mention false (record { text = name 0; line = n })) no_scope) lines
    ≡ map (λ n. Ok (record no_scope { names = record { name = name 0; kind = Unlabelled n } ∷ [] })) lines
line_of_a_mention = refl

-- whatever the fault is
lines_of_other_faults : map
    (λ (e : ℕ → Event). map (λ n. scan_event (e n) (record no_scope { names = table 128 })) lines)
    ((λ n. ExtrnHere (record { text = name 200; line = n })) ∷ (λ n. LvalueWanted n (Named (word 200))) ∷ [])
    ≡ map (λ f. map f lines) (at_line letters.TooManyNames about.Nothing ∷ at_line letters.NotLvalue about.Nothing ∷ [])
lines_of_other_faults = refl

lines_of_cases : map (λ n. scan_event (CaseHere n 7) (record no_scope {
  switches = record { constants = []; has_default = false } ∷ [];
  cases = 256;
})) lines ≡ map (at_line letters.TooManyCases about.Nothing) lines
lines_of_cases = refl

lines_of_labels : map (λ n. undefined (record { name = name 0; kind = Unlabelled n } ∷ [])) lines
    ≡ map (λ n. Some (record { letters = letters.Undefined; about = about.Name (name 0); line = n })) lines
lines_of_labels = refl

-- a word of the frame can be stored to, whichever it is, and so can what an address leads to, on whichever line
lvalues : map (λ k. is_place (Some (Automatic k))) (range_with_len 0 300 ++ 32767 ∷ 32768 ∷ 65535 ∷ [])
    ≡ replicate 303 true
lvalues = refl

lvalues_on_lines : map (λ n. is_lvalue [] (tree.Prefixed tree.Indirection n (Named (word 200)))) lines
    ≡ replicate 13 true
lvalues_on_lines = refl

frames : map automatic_words (None
    ∷ map Some (0 ∷ 1 ∷ 4 ∷ 10 ∷ 13 ∷ 255 ∷ 256 ∷ 32765 ∷ 32766 ∷ 32767 ∷ 32768 ∷ 65535 ∷ []))
    ≡ 1 ∷ 2 ∷ 3 ∷ 6 ∷ 12 ∷ 15 ∷ 257 ∷ 258 ∷ 32767 ∷ 32768 ∷ 32769 ∷ 32770 ∷ 65537 ∷ []
frames = refl

-- The names defined before a definition.
defined_twice : map (λ i. scan (names 130) (tree.Simple (word i) [])) (range_with_len 0 131)
    ≡ map (λ i. Some (record { letters = letters.Redeclared; about = about.Name (name i); line = 4 }))
    (range_with_len 0 130)
    ++ None ∷ []
defined_twice = refl

-- Cases: in the inner one of two switches, which has these constants.
abbrev within : List ℕ → Bool → ℕ → Scope
within constants has_default cases = record no_scope {
  switches = record { constants = constants; has_default = has_default }
      ∷ record { constants = 300 ∷ []; has_default = true } ∷ [];
  cases = cases;
}

case_256 : map (λ v. scan_event (CaseHere 4 v) (within (range_with_len 0 255) false 255)) (range_with_len 0 257)
    ≡ replicate 255 (told letters.Redeclared about.Case)
    ++ map (λ v. Ok (within (range_with_len 0 255 ++ v ∷ []) false 256)) (255 ∷ 256 ∷ [])
case_256 = refl

case_257 : map (λ v. scan_event (CaseHere 4 v) (within (range_with_len 0 256) true 256)) (range_with_len 0 258)
    ≡ replicate 256 (told letters.Redeclared about.Case) ++ replicate 2 (told letters.TooManyCases about.Nothing)
case_257 = refl

-- a default is no case
default_after_256 : map (λ b. scan_event (DefaultHere 4) (within (range_with_len 0 256) b 256)) (false ∷ true ∷ [])
    ≡ Ok (within (range_with_len 0 256) true 256) ∷ told letters.Redeclared about.Default ∷ []
default_after_256 = refl

abbrev numbers_of_cases : List ℕ
numbers_of_cases = 0 ∷ 1 ∷ 9 ∷ 10 ∷ 63 ∷ 99 ∷ 100 ∷ 127 ∷ 128 ∷ 254 ∷ 255 ∷ 256 ∷ []

default_after_each : map (λ n. scan_event (DefaultHere 4) (within (range_with_len 0 n) false n)) numbers_of_cases
    ≡ map (λ n. Ok (within (range_with_len 0 n) true n)) numbers_of_cases
default_after_each = refl

twice_after_each : map (λ n. scan_event (DefaultHere 4) (within (range_with_len 0 n) true n)) numbers_of_cases
    ≡ replicate 12 (told letters.Redeclared about.Default)
twice_after_each = refl

-- any word may be a constant once, and no word twice
abbrev corners : List ℕ
corners = 0 ∷ 1 ∷ 4 ∷ 10 ∷ 13 ∷ 127 ∷ 128 ∷ 255 ∷ 256 ∷ 32767 ∷ 32768 ∷ 65534 ∷ 65535 ∷ []

constants : map (λ v. scan_event (CaseHere 4 v) (within [] false 0)) corners
    ≡ map (λ v. Ok (within (v ∷ []) false 1)) corners
constants = refl

constants_twice : map (λ v. scan_event (CaseHere 4 v) (within corners false 13)) corners
    ≡ replicate 13 (told letters.Redeclared about.Case)
constants_twice = refl

-- The tests of 256 cases, and of a default before, among and after them.
abbrev cases : ℕ → ℕ → Arms ℕ
cases from n = map (λ v. (Some v, v + 2)) (range_with_len from n)

abbrev tests : List Instr
tests = map (λ v. instr.JumpIfCase v (v + 2)) (range_with_len 0 256)

tests_of_256 : map arms_code (cases 0 256 ∷ (cases 0 256 ++ (None, 9) ∷ []) ∷ ((None, 9) ∷ cases 0 256)
    ∷ (cases 0 100 ++ (None, 9) ∷ cases 100 156) ∷ [])
    ≡ (tests ++ instr.Pop ∷ []) ∷ replicate 3 (tests ++ instr.Pop ∷ instr.Jump 9 ∷ [])
tests_of_256 = refl

-- Twelve labels, of which each line goes to the last but so many.
abbrev statements_after : Stmts → List Stmt → Stmts
statements_after before [] = before
statements_after before (s ∷ ss) = statements_after (More before s) ss

abbrev gotos : List Stmt
gotos = map (λ i. Headed (Label (word i)) (Goto (Named (word (11 - i))))) (range_with_len 0 12)

twelve_labels : code_of (Function (word 99) [] (Compound (statements_after tree.Nothing gotos)))
    ≡ definition.Function record {
      name = name 99;
      parameters = 0;
      frame = 0;
      targets = map (λ i. 2 * i) (range_with_len 0 12);
      strings = [];
      code = flat_map (λ i. instr.Label (11 - i) ∷ instr.Goto ∷ []) (range_with_len 0 12)
          ++ instr.Constant 0 ∷ instr.Return ∷ [];
    }
twelve_labels = refl

-- Nine parameters, and 128, each of which is an argument.
abbrev arguments_after : Arguments → List Expr → Arguments
arguments_after before [] = before
arguments_after before (e ∷ es) = arguments_after (Another before e) es

abbrev hands_on : ℕ → tree.Definition
hands_on n = Function (word 200) (map word (range_with_len 0 n))
    (ReturnValue (Called (Named (word 201))
    (arguments_after No_arguments (map (λ i. Named (word i)) (range_with_len 0 n)))))

handed_on : map (λ n. code_of (hands_on n)) (9 ∷ 127 ∷ []) ≡ map (λ n. definition.Function record {
  name = name 200;
  parameters = n;
  frame = n;
  targets = [];
  strings = [];
  code = instr.External (name 201) ∷ instr.Load
      ∷ flat_map (λ i. instr.Automatic i ∷ instr.Load ∷ []) (range_with_len 0 n)
      ++ instr.Call n ∷ instr.Return ∷ instr.Constant 0 ∷ instr.Return ∷ [];
}) (9 ∷ 127 ∷ [])
handed_on = refl

-- Strings: a word for each two characters and the 4 after them.
packed_lengths : map (λ n. length (packed (replicate n 97))) (range_with_len 0 255)
    ≡ map (λ n. (n + 2) / 2) (range_with_len 0 255)
packed_lengths = refl

packed_bytes : map packed (range_with_len 0 256 ∷ range_with_len 0 255 ∷ [])
    ≡ (map (λ i. 2 * i + 256 * (2 * i + 1)) (range_with_len 0 128) ++ 4 ∷ [])
    ∷ (map (λ i. 2 * i + 256 * (2 * i + 1)) (range_with_len 0 127) ++ 1278 ∷ []) ∷ []
packed_bytes = refl

-- Programs.
abbrev simple : List ℕ → List Ival → Definition
simple x values = definition.Simple (record { name = x; values = values; strings = [] })

abbrev vector : List ℕ → ℕ → List Ival → Definition
vector x n values = definition.Vector (record { name = x; words = n; values = values; strings = 1 ∷ 2 ∷ 4 ∷ [] })

abbrev function : List ℕ → ℕ → List Instr → Definition
function x labels code = definition.Function (record {
  name = x;
  parameters = 0;
  frame = 0;
  targets = replicate labels 0;
  strings = 1 ∷ 4 ∷ [];
  code = code;
})

abbrev main : Definition
main = function (codes "main") 0 []

duplicates : map (λ i. duplicate_after (names 130) (name i ∷ [])) (range_with_len 0 131)
    ≡ map (λ i. Some (name i)) (range_with_len 0 130) ++ None ∷ []
duplicates = refl

first_duplicate : map (duplicate_after []) (names 130 ∷ (names 130 ++ name 129 ∷ name 0 ∷ [])
    ∷ (names 130 ++ names 130) ∷ [])
    ≡ None ∷ Some (name 129) ∷ Some (name 0) ∷ []
first_duplicate = refl

-- 130 definitions of one word each, and then those of the library
abbrev many : List Definition
many = map (λ x. simple x []) (names 130)

address_of_each : map (address_in (addresses (map shape_of many))) (names 131 ++ codes "exit" ∷ [])
    ≡ map Some (range_with_len 7 130) ++ None ∷ Some 6 ∷ []
address_of_each = refl

undefined_after_many : first_undefined (address_in (addresses (map shape_of many))) (names 130 ++ name 200 ∷ name 201
    ∷ [])
    ≡ Some (name 200)
undefined_after_many = refl

loads_many : map load_fault ((many ++ main ∷ []) ∷ (many ++ main ∷ simple (name 0) [] ∷ [])
    ∷ (many ++ main ∷ simple (name 129) [] ∷ [])
    ∷ (main ∷ many ++ function (name 200) 0 (replicate 100 instr.Pop ++ instr.External (name 201) ∷ []) ∷ []) ∷ many
    ∷ [])
    ≡ None ∷ Some (fault.Duplicate (name 0)) ∷ Some (fault.Duplicate (name 129)) ∷ Some (fault.Undefined (name 201))
    ∷ Some fault.NoMain ∷ []
loads_many = refl

-- twelve functions with 0 to 11 labels and two string words each, and a vector between
abbrev functions : List Definition
functions = map (λ i. function (name i) i []) (range_with_len 0 12)

spots_of_functions : map (λ (s : Spot). s.value) (spots (map shape_of functions)) ≡ range_with_len 7 12
spots_of_functions = refl

labels_of_functions : map (λ (s : Spot). s.first_label) (spots (map shape_of functions))
    ≡ 1 ∷ 1 ∷ 2 ∷ 4 ∷ 7 ∷ 11 ∷ 16 ∷ 22 ∷ 29 ∷ 37 ∷ 46 ∷ 56 ∷ []
labels_of_functions = refl

addresses_of_functions : map (λ (s : Spot). s.address) (spots (map shape_of functions))
    ≡ map (λ i. 7 + 3 * i) (range_with_len 0 12)
addresses_of_functions = refl

strings_of_functions : map (λ (s : Spot). s.strings) (spots (map shape_of functions))
    ≡ map (λ i. 8 + 3 * i) (range_with_len 0 12)
strings_of_functions = refl

words_of_functions : drop 7 (first_words (map shape_of functions))
    ≡ flat_map (λ i. (7 + i) ∷ 1 ∷ 4 ∷ []) (range_with_len 0 12)
words_of_functions = refl

-- and 130 functions of one label each: their values, the values of their labels, and where they lie
abbrev many_functions : List Definition
many_functions = map (λ i. function (name i) 1 []) (range_with_len 0 130)

spots_of_many : map (λ (s : Spot). s.value ∷ s.first_label ∷ s.address ∷ s.strings ∷ [])
    (spots (map shape_of many_functions))
    ≡ map (λ i. (7 + i) ∷ (1 + i) ∷ (7 + 3 * i) ∷ (8 + 3 * i) ∷ []) (range_with_len 0 130)
spots_of_many = refl

words_of_many : drop 7 (first_words (map shape_of many_functions))
    ≡ flat_map (λ i. (7 + i) ∷ 1 ∷ 4 ∷ []) (range_with_len 0 130)
words_of_many = refl

-- A function as an initial value is its address, and not its value: a table of functions in a simple one and in a
-- vector.
abbrev dispatching : List Definition
dispatching =
    function (name 0) 0 [] ∷ simple (name 1) (map ival.Name (name 0 ∷ name 3 ∷ name 4 ∷ []))
    ∷ vector (name 2) 4 (map ival.Name (name 4 ∷ name 3 ∷ name 0 ∷ [])) ∷ function (name 3) 2 []
    ∷ function (name 4) 0 [] ∷ []

words_of_dispatching : drop 7 (first_words (map shape_of dispatching))
    ≡ 7 ∷ 1 ∷ 4 ∷ 7 ∷ 21 ∷ 24 ∷ 14 ∷ 24 ∷ 21 ∷ 7 ∷ 0 ∷ 1 ∷ 2 ∷ 4 ∷ 8 ∷ 1 ∷ 4 ∷ 9 ∷ 1 ∷ 4 ∷ []
words_of_dispatching = refl

-- the words of definitions with 0 to 12 values: at least one, and at least as many as the vector has, and its own
sizes : map (λ n. size_of (shape_of (simple (name 0) (replicate n (ival.Number 5))))) (range_with_len 0 13)
    ≡ 1 ∷ range_with_len 1 12
sizes = refl

sizes_of_vectors : map (λ n. size_of (shape_of (vector (name 0) 5 (replicate n (ival.Number 5))))) (range_with_len 0 13)
    ≡ replicate 6 9 ++ range_with_len 10 7
sizes_of_vectors = refl

ends_of_data : map (λ n. data_end (map shape_of (take n (vector (name 0) 32767 [] ∷ functions)))) (range_with_len 0 14)
    ≡ 7 ∷ map (λ i. 32778 + 3 * i) (range_with_len 0 13)
ends_of_data = refl

-- more than a hundred of them, whose last one counts
many_values : drop 107 (first_words (map shape_of (simple (name 0) (map ival.Number (range_with_len 1000 130)) ∷ [])))
    ≡ range_with_len 1100 30
many_values = refl

sizes_of_130 : size_of (shape_of (simple (name 0) (replicate 130 (ival.Number 5))))
    ∷ size_of (shape_of (vector (name 0) 5 (replicate 130 (ival.Number 5)))) ∷ []
    ≡ 130 ∷ 134 ∷ []
sizes_of_130 = refl

-- the words of a vector, and the labels of a function, by their number
abbrev numbers : List ℕ
numbers = 0 ∷ 1 ∷ 2 ∷ 127 ∷ 128 ∷ 255 ∷ 256 ∷ 32767 ∷ 32768 ∷ 65535 ∷ []

vectors : map (λ n. words_before_strings (layout.Vector n) []) numbers ≡ map (λ n. 1 + n) numbers
vectors = refl

lengths_of_vectors : map
    (λ n. length (words_of_kind (layout.Vector n)
    (record { address = 7; strings = 8; value = 9; first_label = 1 }) [])) numbers
    ≡ map (λ n. 1 + n) numbers
lengths_of_vectors = refl

own_words : map (λ a. words_of_kind (layout.Vector 1) (record { address = a; strings = 8; value = 9; first_label = 1 })
    (5 ∷ [])) numbers
    ≡ map (λ a. (a + 1) ∷ 5 ∷ []) numbers
own_words = refl

labels_of_each : map (λ n. labels_in (layout.Function n)) numbers ≡ numbers
labels_of_each = refl

-- the input of a run, and its store
abbrev with_words : List ℕ → LaidOut ℕ
with_words words = record { functions = []; main = None; words = words; data_end = 2; addresses = [] }

first_input : (first_world (with_words []) (range_with_len 0 256)).input ≡ range_with_len 0 256
first_input = refl

first_store : map (word_at (first_world (with_words (range_with_len 3 130)) []))
    (0 ∷ 1 ∷ 8 ∷ 9 ∷ 100 ∷ 129 ∷ 130 ∷ 255 ∷ 256 ∷ 32767 ∷ 32768 ∷ 65535 ∷ [])
    ≡ 3 ∷ 4 ∷ 11 ∷ 12 ∷ 103 ∷ 132 ∷ replicate 6 0
first_store = refl

no_output : (first_world (with_words []) []).output ≡ []
no_output = refl

-- The names in instructions and initial values: those of externals alone.
abbrev each_instruction : List Instr
each_instruction =
    instr.Constant 1 ∷ instr.External (name 1) ∷ instr.Automatic 1 ∷ instr.Text 1 ∷ instr.Label 1 ∷ instr.Load
    ∷ instr.Store
    ∷ instr.Binary op.Or ∷ instr.Modify op.Or ∷ instr.Negate ∷ instr.Not ∷ instr.Increment increment.PreIncrement
    ∷ instr.Jump 1
    ∷ instr.JumpIfZero 1 ∷ instr.Goto ∷ instr.JumpIfCase 1 1 ∷ instr.Call 1 ∷ instr.Return ∷ instr.Pop ∷ []

names_in_instructions : map name_in_instr each_instruction ≡ [] ∷ (name 1 ∷ []) ∷ replicate 17 []
names_in_instructions = refl

names_in_each : map names_in (function (name 0) 0 (map instr.External (names 20) ++ each_instruction)
    ∷ simple (name 0) (ival.Number 1 ∷ ival.Text 1 ∷ map ival.Name (names 20))
    ∷ vector (name 0) 5 (map ival.Name (names 20) ++ ival.Number 1 ∷ ival.Text 1 ∷ ival.Name (name 1) ∷ []) ∷ [])
    ≡ (names 20 ++ name 1 ∷ []) ∷ names 20 ∷ (names 20 ++ name 1 ∷ []) ∷ []
names_in_each = refl
