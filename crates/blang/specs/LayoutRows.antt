-- Closed facts: small programs, where they lie and why they don't load.
use Rattle.std.specs.Prelude.{◌≡◌, ℕ, List, [], ◌∷◌, map, take, drop, replicate, codes, true, false, Some, None, refl}
use Rattle.blang.specs.declared.code.Definition.{Definition}
use Rattle.blang.specs.declared.code.Instr.{Instr}
use Rattle.blang.specs.declared.code.Instr.TheVariants.{Constant, External, Call, Pop, Return}
use Rattle.blang.specs.declared.code.Ival.{Ival}
use Rattle.blang.specs.Layout.{shape_of, data_end, spots, Spot, addresses, address_in, first_words, load_fault, is_main}
use Rattle.blang.specs.declared.code.Definition.TheVariants as definition
use Rattle.blang.specs.declared.code.Ival.TheVariants as ival
use Rattle.blang.specs.declared.run.LoadFault.TheVariants as fault

-- a function with this name, these labels' targets, string words and instructions
abbrev function : List ℕ → List ℕ → List ℕ → List Instr → Definition
function name targets strings code =
    definition.Function
    (record { name = name; parameters = 0; frame = 0; targets = targets; strings = strings; code = code })

abbrev simple : List ℕ → List Ival → List ℕ → Definition
simple name values strings = definition.Simple (record { name = name; values = values; strings = strings })

abbrev vector : List ℕ → ℕ → List Ival → List ℕ → Definition
vector name n values strings =
    definition.Vector (record { name = name; words = n; values = values; strings = strings })

abbrev main : Definition
main = function (codes "main") [] [] (Constant 0 ∷ Return ∷ [])

-- the words from 7 on
abbrev words_of : List Definition → List ℕ
words_of ds = drop 7 (first_words (map shape_of ds))

-- n 5; v[1]; main(){}
abbrev numbers : List Definition
numbers = simple (codes "n") (ival.Number 5 ∷ []) [] ∷ vector (codes "v") 2 [] [] ∷ main ∷ []

numbers_words : words_of numbers ≡ 5 ∷ 9 ∷ 0 ∷ 0 ∷ 7 ∷ []
numbers_words = refl

numbers_end : data_end (map shape_of numbers) ≡ 12
numbers_end = refl

-- s "ab", t, 'x'; t; main(){}
abbrev strings : List Definition
strings = simple (codes "s") (ival.Text 0 ∷ ival.Name (codes "t") ∷ ival.Number 120 ∷ []) (25185 ∷ 4 ∷ [])
    ∷ simple (codes "t") [] [] ∷ main ∷ []

strings_words : words_of strings ≡ 10 ∷ 12 ∷ 120 ∷ 25185 ∷ 4 ∷ 0 ∷ 7 ∷ []
strings_words = refl

strings_end : data_end (map shape_of strings) ≡ 14
strings_end = refl

-- words 1 to 6 are the library's
first_seven : take 7 (first_words (map shape_of strings)) ≡ 0 ∷ 1 ∷ 2 ∷ 3 ∷ 4 ∷ 5 ∷ 6 ∷ []
first_seven = refl

-- v[2] 1,2,3,4; has as many words as values, and v[2] 1; has zeros after them
vector_full : words_of
    (vector (codes "v") 4 (ival.Number 1 ∷ ival.Number 2 ∷ ival.Number 3 ∷ ival.Number 4 ∷ []) [] ∷ main ∷ [])
    ≡ 8 ∷ 1 ∷ 2 ∷ 3 ∷ 4 ∷ 7 ∷ []
vector_full = refl

vector_zeros : words_of (vector (codes "v") 3 (ival.Number 1 ∷ []) [] ∷ main ∷ []) ≡ 8 ∷ 1 ∷ 0 ∷ 0 ∷ 7 ∷ []
vector_zeros = refl

-- a vector's string words come after its words; its own name as a value is the address of its own word
vector_strings : words_of (vector (codes "v") 2 (ival.Text 1 ∷ ival.Name (codes "v") ∷ []) (4 ∷ 1121 ∷ []) ∷ main ∷ [])
    ≡ 8 ∷ 11 ∷ 7 ∷ 4 ∷ 1121 ∷ 7 ∷ []
vector_strings = refl

-- exit 5; main(){}
abbrev hidden : List Definition
hidden = simple (codes "exit") (ival.Number 5 ∷ []) [] ∷ main ∷ []

hidden_address : address_in (addresses (map shape_of hidden)) (codes "exit") ≡ Some 7
hidden_address = refl

library_address : map (address_in (addresses (map shape_of hidden)))
    (codes "char" ∷ codes "lchar" ∷ codes "getchar" ∷ codes "putchar" ∷ codes "printn" ∷ codes "main" ∷ codes "none"
    ∷ []) ≡ Some 1 ∷ Some 2 ∷ Some 3 ∷ Some 4 ∷ Some 5 ∷ Some 8 ∷ None ∷ []
library_address = refl

not_hidden : address_in (addresses (map shape_of (main ∷ []))) (codes "exit") ≡ Some 6
not_hidden = refl

hidden_words : first_words (map shape_of hidden) ≡ 0 ∷ 1 ∷ 2 ∷ 3 ∷ 4 ∷ 5 ∷ 6 ∷ 5 ∷ 7 ∷ []
hidden_words = refl

-- functions count from 7 on in the order of the text, labels from 1 on over the whole program
abbrev labels : List Definition
labels = function (codes "f") (0 ∷ 1 ∷ []) (4 ∷ []) (Constant 0 ∷ Return ∷ []) ∷ simple (codes "n") [] []
    ∷ function (codes "g") [] [] [] ∷ function (codes "main") (1 ∷ []) [] (Constant 0 ∷ Return ∷ []) ∷ []

labels_values : map (λ (s : Spot). s.value) (spots (map shape_of labels)) ≡ 7 ∷ 8 ∷ 8 ∷ 9 ∷ []
labels_values = refl

labels_first : map (λ (s : Spot). s.first_label) (spots (map shape_of labels)) ≡ 1 ∷ 3 ∷ 3 ∷ 3 ∷ []
labels_first = refl

labels_strings : map (λ (s : Spot). s.strings) (spots (map shape_of labels)) ≡ 8 ∷ 10 ∷ 11 ∷ 12 ∷ []
labels_strings = refl

labels_words : words_of labels ≡ 7 ∷ 4 ∷ 0 ∷ 8 ∷ 9 ∷ []
labels_words = refl

-- none of the four faults
numbers_load : load_fault numbers ≡ None
numbers_load = refl

-- n; n;
twice : load_fault (simple (codes "n") [] [] ∷ simple (codes "n") [] [] ∷ []) ≡ Some (fault.Duplicate (codes "n"))
twice = refl

-- the first that an earlier one has: a; b; b; a;
twice_first : load_fault
    (simple (codes "a") [] [] ∷ simple (codes "b") [] [] ∷ simple (codes "b") [] [] ∷ simple (codes "a") [] [] ∷ [])
    ≡ Some (fault.Duplicate (codes "b"))
twice_first = refl

-- v[30000]; w[30000]; x[10000]; main() ;
too_large : load_fault
    (vector (codes "v") 30001 [] [] ∷ vector (codes "w") 30001 [] [] ∷ vector (codes "x") 10001 [] [] ∷ main ∷ [])
    ≡ Some fault.TooLarge
too_large = refl

-- the data may end at 65536, and not after it
largest : load_fault (vector (codes "v") 32767 [] [] ∷ vector (codes "w") 32759 [] [] ∷ main ∷ []) ≡ None
largest = refl

one_too_large : load_fault (vector (codes "v") 32767 [] [] ∷ vector (codes "w") 32760 [] [] ∷ main ∷ [])
    ≡ Some fault.TooLarge
one_too_large = refl

-- Labels may count to 65535; the first label of a function after them is 65536.
many_labels : load_fault (function (codes "f") (replicate 65535 0) [] [] ∷ main ∷ []) ≡ None
many_labels = refl

too_many_labels : load_fault
    (function (codes "f") (replicate 65535 0) [] [] ∷ function (codes "main") (0 ∷ []) [] [] ∷ []) ≡ Some fault.TooLarge
too_many_labels = refl

label_after_many : map (λ (s : Spot). s.first_label)
    (spots (map shape_of (function (codes "f") (replicate 65535 0) [] [] ∷ main ∷ []))) ≡ 1 ∷ 65536 ∷ []
label_after_many = refl

-- main() g();
undefined : load_fault (function (codes "main") [] [] (External (codes "g") ∷ Call 0 ∷ Pop ∷ []) ∷ [])
    ≡ Some (fault.Undefined (codes "g"))
undefined = refl

-- the first in the text, in values and instructions alike: n a; main() b();
undefined_first : load_fault
    (simple (codes "n") (ival.Name (codes "a") ∷ []) [] ∷ function (codes "main") [] [] (External (codes "b") ∷ [])
    ∷ []) ≡ Some (fault.Undefined (codes "a"))
undefined_first = refl

-- the library defines exit
library_defined : load_fault (function (codes "main") [] [] (External (codes "exit") ∷ Call 0 ∷ Pop ∷ []) ∷ []) ≡ None
library_defined = refl

-- an empty text, and main;
no_definition : load_fault [] ≡ Some fault.NoMain
no_definition = refl

no_function : load_fault (simple (codes "main") [] [] ∷ []) ≡ Some fault.NoMain
no_function = refl

-- Of several faults the first kind is given: main g; main; has three of them.
order_1 : load_fault (simple (codes "main") (ival.Name (codes "g") ∷ []) [] ∷ simple (codes "main") [] [] ∷ [])
    ≡ Some (fault.Duplicate (codes "main"))
order_1 = refl

-- v[32766]; v[32766];
order_of_sizes : load_fault (vector (codes "v") 32767 [] [] ∷ vector (codes "v") 32767 [] [] ∷ main ∷ [])
    ≡ Some (fault.Duplicate (codes "v"))
order_of_sizes = refl

-- v[32766] g; w[32766];
order_2 : load_fault (vector (codes "v") 32767 (ival.Name (codes "g") ∷ []) [] ∷ vector (codes "w") 32767 [] [] ∷ [])
    ≡ Some fault.TooLarge
order_2 = refl

-- n g;
order_3 : load_fault (simple (codes "n") (ival.Name (codes "g") ∷ []) [] ∷ []) ≡ Some (fault.Undefined (codes "g"))
order_3 = refl

-- v[1] g; main() ;
vector_undefined : load_fault (vector (codes "v") 2 (ival.Name (codes "g") ∷ []) [] ∷ main ∷ [])
    ≡ Some (fault.Undefined (codes "g"))
vector_undefined = refl

-- a function of that name alone is the main one
mains : map is_main (main ∷ simple (codes "main") [] [] ∷ vector (codes "main") 1 [] []
    ∷ function (codes "mains") [] [] [] ∷ function (codes "mai") [] [] [] ∷ [])
    ≡ true ∷ false ∷ false ∷ false ∷ false ∷ []
mains = refl

-- main[1];
main_is_a_vector : load_fault (vector (codes "main") 2 [] [] ∷ []) ≡ Some fault.NoMain
main_is_a_vector = refl

-- v[32766]; s "a", w; w[1]; main(){}: addresses from 32768 on are words as others
abbrev high : List Definition
high = vector (codes "v") 32767 [] [] ∷ simple (codes "s") (ival.Text 0 ∷ ival.Name (codes "w") ∷ []) (1121 ∷ [])
    ∷ vector (codes "w") 2 [] [] ∷ main ∷ []

high_words : drop 32775 (first_words (map shape_of high)) ≡ 32777 ∷ 32778 ∷ 1121 ∷ 32779 ∷ 0 ∷ 0 ∷ 7 ∷ []
high_words = refl
