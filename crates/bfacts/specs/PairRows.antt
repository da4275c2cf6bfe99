-- Closed facts where two features meet: a limit and a label, an edge and an escape, a hidden name and a repeated one.
use Rattle.std.specs.Prelude.{◌≡◌, ◌*◌, ◌+◌, ◌-◌, ℕ, List, [], ◌∷◌, ◌++◌, map, replicate, codes, Some, None, refl}
use Rattle.std.specs.Fmt.{digits}
use Rattle.std.specs.List.{flat_map, range_with_len}
use Rattle.bword.specs.Words.{binary_of, zeros}
use Rattle.bword.specs.declared.operators.BinOp.TheVariants as op
use Rattle.bword.specs.declared.edition.Edition.{Edition}
use Rattle.bword.specs.declared.edition.Edition.TheVariants as editions
use Rattle.blang.specs.Compiles.{Compilation, compilation_of, compiled_text, line_of}
use Rattle.blang.specs.Cut.{escape_of, escapes, fixed_of, greatest, keyword_of, longest, number_in, operator_of, other_of}
use Rattle.blang.specs.Cut.{tokens_from, whole, with_quoted_byte, word_token, cut}
use Rattle.blang.specs.Layout.{Ends, Exited, World, address_in, addresses, library, library_functions, load_fault, shape_of}
use Rattle.blang.specs.Text.{instr_line, target_line}
use Rattle.blang.specs.Trees.{Identifier}
use Rattle.blang.specs.Trees as trees
use Rattle.blang.specs.declared.code.Definition.{Definition}
use Rattle.blang.specs.declared.code.Definition.TheVariants as definition
use Rattle.blang.specs.declared.code.Instr.{Instr}
use Rattle.blang.specs.declared.code.Instr.TheVariants as instr
use Rattle.blang.specs.declared.code.Ival.{Ival}
use Rattle.blang.specs.declared.code.Ival.TheVariants as ival
use Rattle.blang.specs.declared.run.Library.TheVariants.{Exit}
use Rattle.blang.specs.declared.run.LoadFault.TheVariants as fault
use Rattle.blang.specs.declared.token.About.TheVariants as about
use Rattle.blang.specs.declared.token.Letters.TheVariants as letters
use Rattle.blang.specs.declared.token.Token.{Token}
use Rattle.blang.specs.declared.token.Token.TheVariants as token

abbrev simple : List ℕ → List Ival → Definition
simple name values = definition.Simple (record { name = name; values = values; strings = [] })

abbrev vector : List ℕ → ℕ → Definition
vector name n = definition.Vector (record { name = name; words = n; values = []; strings = [] })

-- with so many parameters, these labels' targets and instructions
abbrev function : List ℕ → ℕ → List ℕ → List Instr → Definition
function name parameters targets code =
    definition.Function
    (record { name = name; parameters = parameters; frame = parameters; targets = targets; strings = []; code = code })

abbrev main : Definition
main = function (codes "main") 0 [] (instr.Return ∷ [])

abbrev library_names : List (List ℕ)
library_names = map (λ f. f.0) library_functions

-- A name of the library may be defined once, as whatever, and not twice.
library_once : flat_map (λ x. map (λ d. load_fault (d ∷ main ∷ []))
    (simple x [] ∷ vector x 3 ∷ function x 2 [] (instr.Return ∷ []) ∷ [])) library_names ≡ replicate 18 None
library_once = refl

library_twice : flat_map (λ x. map (λ d. load_fault (d ∷ main ∷ simple x [] ∷ []))
    (simple x [] ∷ vector x 3 ∷ function x 2 [] (instr.Return ∷ []) ∷ [])) library_names
    ≡ flat_map (λ x. replicate 3 (Some (fault.Duplicate x))) library_names
library_twice = refl

-- the address that a name has beside a definition of the same name, and of another one
library_hidden : flat_map (λ x. map (λ d. address_in (addresses (map shape_of (simple (codes "n") [] ∷ d ∷ []))) x)
    (simple x [] ∷ vector x 3 ∷ function x 2 [] [] ∷ [])) library_names ≡ replicate 18 (Some 8)
library_hidden = refl

others_stay : map (λ x. address_in (addresses (map shape_of (vector (codes "exit") 3 ∷ main ∷ []))) x) library_names
    ≡ Some 1 ∷ Some 2 ∷ Some 3 ∷ Some 4 ∷ Some 5 ∷ Some 7 ∷ []
others_stay = refl

-- The data may end at 65536 beside as many labels as may be. With one word or one label more they are too large.
abbrev data_with : (words labels : ℕ) → List Definition
data_with words labels =
    vector (codes "v") 32767 ∷ vector (codes "w") words
    ∷ function (codes "main") 0 (replicate labels 0) (instr.Return ∷ []) ∷ []

data_and_labels : load_fault (data_with 32759 1) ∷ load_fault (data_with 32759 65535) ∷ load_fault (data_with 32760 1)
    ∷ load_fault (data_with 32760 65535) ∷ load_fault (data_with 32759 65536) ∷ []
    ≡ None ∷ None ∷ Some fault.TooLarge ∷ Some fault.TooLarge ∷ Some fault.TooLarge ∷ []
data_and_labels = refl

-- A main function is one with whatever parameters, labels and code.
main_with : map (λ n. load_fault (function (codes "main") n [] [] ∷ [])) (0 ∷ 1 ∷ 2 ∷ 3 ∷ 127 ∷ 128 ∷ [])
    ∷ map (λ n. load_fault (function (codes "main") n (0 ∷ []) (instr.Pop ∷ []) ∷ [])) (0 ∷ 1 ∷ 3 ∷ 128 ∷ []) ∷ []
    ≡ replicate 6 None ∷ replicate 4 None ∷ []
main_with = refl

-- What isn't defined is told in the order of the text: of code before data, and of data before code.
abbrev uses : List ℕ → Definition
uses x = function (codes "main") 0 [] (instr.External x ∷ instr.Return ∷ [])

abbrev holds : List ℕ → Definition
holds x = simple (codes "n") (ival.Name x ∷ [])

undefined_in_order :
    load_fault (uses (codes "a") ∷ holds (codes "b") ∷ []) ∷ load_fault (holds (codes "b") ∷ uses (codes "a") ∷ []) ∷ []
    ≡ Some (fault.Undefined (codes "a")) ∷ Some (fault.Undefined (codes "b")) ∷ []
undefined_in_order = refl

-- exit looks at its first argument alone
abbrev world : World
world = record { store = zeros; input = []; output = [] }

abbrev statuses : List ℕ
statuses = range_with_len 0 5 ++ range_with_len 98 5 ++ 127 ∷ []

exits_by_first : flat_map (λ n. map (λ more. library Exit (n ∷ more) world)
    ([] ∷ (0 ∷ []) ∷ (n ∷ []) ∷ (100 ∷ []) ∷ (65535 ∷ []) ∷ (1 ∷ 2 ∷ 3 ∷ []) ∷ [])) statuses
    ≡ flat_map (λ n. replicate 6 (Ends (Exited n) world)) statuses
exits_by_first = refl

-- Sums of two words next to 65536, over the whole range of the first.
abbrev summands : List ℕ
summands = map (λ n. 257 * n + 3) (range_with_len 0 255) ++ range_with_len 32760 16

sums : flat_map (λ x. map (λ d. binary_of op.Add x (65533 + d - x)) (range_with_len 0 6)) summands
    ≡ flat_map (λ x. Some 65533 ∷ Some 65534 ∷ Some 65535 ∷ Some 0 ∷ Some 1 ∷ Some 2 ∷ []) summands
sums = refl

-- Constants of two escapes, each beside each.
abbrev tokens : Edition → List ℕ → List Token
tokens edition bytes = map (λ p. p.token) (tokens_from edition 1 bytes)

escaped_pairs : flat_map (λ a. map (λ b. tokens editions.One (codes "'*" ++ a.0 ++ codes "*" ++ b.0 ++ codes "'")) escapes)
    escapes ≡ flat_map (λ a. map (λ b. token.Character (a.1 * 256 + b.1) ∷ token.End ∷ []) escapes) escapes
unfolding tokens_from cut longest greatest whole word_token keyword_of number_in operator_of other_of fixed_of escape_of
    with_quoted_byte
escaped_pairs = refl

escaped_and_plain : flat_map (λ a. map (tokens editions.Two) ((codes "'*" ++ a.0 ++ codes "x'")
    ∷ (codes "'x*" ++ a.0 ++ codes "'") ∷ (codes "'*" ++ a.0 ++ codes "'") ∷ [])) escapes
    ≡ flat_map (λ a. map (λ n. token.Character n ∷ token.End ∷ []) ((a.1 * 256 + 120) ∷ (120 * 256 + a.1) ∷ a.1 ∷ [])) escapes
unfolding tokens_from cut longest greatest whole word_token keyword_of number_in operator_of other_of fixed_of escape_of
    with_quoted_byte
escaped_and_plain = refl

-- places up to the end of the longest function
abbrev places : List ℕ
places = 0 ∷ 9 ∷ 10 ∷ 99 ∷ 4094 ∷ 4095 ∷ 4096 ∷ []

place_lines : map (λ n. instr_line (instr.Jump n)) places ∷ map (λ n. instr_line (instr.JumpIfZero n)) places
    ∷ map target_line places ∷ map (λ n. instr_line (instr.JumpIfCase n n)) (4096 ∷ 65535 ∷ []) ∷ []
    ≡ (codes "j 0\n" ∷ codes "j 9\n" ∷ codes "j 10\n" ∷ codes "j 99\n" ∷ codes "j 4094\n" ∷ codes "j 4095\n" ∷ codes "j 4096\n" ∷ [])
    ∷ (codes "z 0\n" ∷ codes "z 9\n" ∷ codes "z 10\n" ∷ codes "z 99\n" ∷ codes "z 4094\n" ∷ codes "z 4095\n" ∷ codes "z 4096\n" ∷ [])
    ∷ (codes "t 0\n" ∷ codes "t 9\n" ∷ codes "t 10\n" ∷ codes "t 99\n" ∷ codes "t 4094\n" ∷ codes "t 4095\n" ∷ codes "t 4096\n" ∷ [])
    ∷ (codes "e 4096 4096\n" ∷ codes "e 65535 65535\n" ∷ []) ∷ []
unfolding digits
place_lines = refl

-- Lines count on past 2^32.
lines_of_tokens : map (λ n. map (λ p. p.line) (tokens_from editions.One n (codes "x\ny\n\nz")))
    (1 ∷ 65535 ∷ 4294967294 ∷ 4294967295 ∷ 4294967296 ∷ [])
    ≡ map (λ n. n ∷ (n + 1) ∷ (n + 3) ∷ (n + 3) ∷ []) (1 ∷ 65535 ∷ 4294967294 ∷ 4294967295 ∷ 4294967296 ∷ [])
unfolding tokens_from cut longest greatest whole word_token keyword_of
lines_of_tokens = refl

line_texts : map (λ n. line_of (record { letters = letters.Syntax; about = about.Nothing; line = n }))
    (4294967295 ∷ 4294967296 ∷ 4294967297 ∷ [])
    ≡ codes "sx 4294967295\n" ∷ codes "sx 4294967296\n" ∷ codes "sx 4294967297\n" ∷ []
unfolding digits
line_texts = refl

-- A name that any earlier definition has is told, and not the last one's alone.
abbrev external : List ℕ → ℕ → trees.Definition
external x n = trees.Simple (record { text = x; line = n }) []

abbrev redeclared : List ℕ → ℕ → Compilation
redeclared x n = record {
  code = compiled_text (external (codes "a") 1) ∷ compiled_text (external (codes "b") 2)
      ∷ compiled_text (external (codes "c") 3) ∷ [];
  stop = Some (record { letters = letters.Redeclared; about = about.Name x; line = n });
}

repeated_names : map (λ x. compilation_of []
    (external (codes "a") 1 ∷ external (codes "b") 2 ∷ external (codes "c") 3 ∷ external x 4 ∷ external x 5 ∷ []) None)
    (codes "a" ∷ codes "b" ∷ codes "c" ∷ [])
    ≡ redeclared (codes "a") 4 ∷ redeclared (codes "b") 4 ∷ redeclared (codes "c") 4 ∷ []
unfolding digits
repeated_names = refl

defined_before : map (λ x. (compilation_of (codes "a" ∷ codes "b" ∷ codes "a" ∷ []) (external x 4 ∷ []) None).code)
    (codes "a" ∷ codes "b" ∷ codes "c" ∷ []) ≡ [] ∷ [] ∷ (compiled_text (external (codes "c") 4) ∷ []) ∷ []
unfolding digits
defined_before = refl
