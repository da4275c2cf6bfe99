-- Closed facts: texts of single definitions, and the lines of each instruction and initial value.
use Rattle.std.specs.Prelude.{◌≡◌, ℕ, List, [], ◌∷◌, ◌++◌, map, replicate, codes, decimal, refl}
use Rattle.std.specs.List.{range_with_len, flat_map}
use Rattle.std.specs.Fmt.{digits}
use Rattle.bword.specs.declared.edition.Edition.TheVariants as editions
use Rattle.bword.specs.declared.operators.BinOp.TheVariants as op
use Rattle.blang.specs.declared.code.Instr.{Instr}
use Rattle.blang.specs.Text.{definition_text, code_lines, joined, opening, instr_line, ival_line, target_line}
use Rattle.blang.specs.Text.{string_line, header_line, body_lines}
use Rattle.blang.specs.declared.code.Definition.TheVariants as definition
use Rattle.blang.specs.declared.code.Increment.TheVariants as increment
use Rattle.blang.specs.declared.code.Instr.TheVariants as instr
use Rattle.blang.specs.declared.code.Ival.TheVariants as ival

-- n 2000;
number : definition_text (definition.Simple record { name = codes "n"; values = ival.Number 2000 ∷ []; strings = [] })
    ≡ codes "X n 1 0\nc 2000\n"
unfolding digits
number = refl

-- s "ab", t, 'x';
string : definition_text (definition.Simple record {
  name = codes "s";
  values = ival.Text 0 ∷ ival.Name (codes "t") ∷ ival.Number 120 ∷ [];
  strings = 25185 ∷ 4 ∷ [];
}) ≡ codes "X s 3 2\ns 0\nx t\nc 120\nw 25185\nw 4\n"
unfolding digits
string = refl

-- v[2] 1,2,3,4;
vector : definition_text (definition.Vector record {
  name = codes "v";
  words = 4;
  values = ival.Number 1 ∷ ival.Number 2 ∷ ival.Number 3 ∷ ival.Number 4 ∷ [];
  strings = [];
}) ≡ codes "V v 4 4 0\nc 1\nc 2\nc 3\nc 4\n"
unfolding digits
vector = refl

-- f(a) { auto v 1, i; L: v[i] =+ a; switch a { case 2: goto L; } return(i); }
function : definition_text (definition.Function record {
  name = codes "f";
  parameters = 1;
  frame = 5;
  targets = 4 ∷ [];
  strings = [];
  code =
      instr.Automatic 1 ∷ instr.Automatic 2 ∷ instr.Store ∷ instr.Pop ∷ instr.Automatic 1 ∷ instr.Load ∷ instr.Automatic
      4
      ∷ instr.Load ∷ instr.Binary op.Add ∷ instr.Automatic 0 ∷ instr.Load ∷ instr.Modify op.Add ∷ instr.Pop
      ∷ instr.Automatic 0 ∷ instr.Load ∷ instr.Jump 19 ∷ instr.Label 0 ∷ instr.Goto ∷ instr.Jump 21
      ∷ instr.JumpIfCase 2 16 ∷ instr.Pop ∷ instr.Automatic 4 ∷ instr.Load ∷ instr.Return ∷ instr.Constant 0
      ∷ instr.Return ∷ [];
}) ≡ codes
    "F f 1 5 1 0 26\nt 4\na 1\na 2\nw\np\na 1\nv\na 4\nv\nb +\na 0\nv\nm +\np\na 0\nv\nj 19\n"
    ++ codes "l 0\ng\nj 21\ne 2 16\np\na 4\nv\nr\nc 0\nr\n"
unfolding digits
function = refl

-- the letters that the function above has none of
letters : definition_text (definition.Function record {
  name = codes "g";
  parameters = 0;
  frame = 0;
  targets = [];
  strings = 4 ∷ [];
  code = instr.External (codes "x") ∷ instr.Text 0 ∷ instr.Negate ∷ instr.Not ∷ instr.Increment increment.PreIncrement
      ∷ instr.Increment increment.PreDecrement ∷ instr.Increment increment.PostIncrement
      ∷ instr.Increment increment.PostDecrement ∷ instr.JumpIfZero 1 ∷ instr.Call 2 ∷ [];
}) ≡ codes "F g 0 0 0 1 10\nw 4\nx x\ns 0\nn\nh\ni 0\ni 1\ni 2\ni 3\nz 1\nk 2\n"
unfolding digits
letters = refl

empty : joined (code_lines editions.One []) ≡ codes "E\n"
empty = refl

empty_in_two : joined (code_lines editions.Two []) ≡ codes "B 2\nE\n"
empty_in_two = refl

openings : map opening (editions.One ∷ editions.Two ∷ []) ≡ [] ∷ codes "B 2\n" ∷ []
openings = refl

-- without needless zeros
numbers : map decimal (0 ∷ 7 ∷ 10 ∷ 100 ∷ 65535 ∷ []) ≡
    codes "0" ∷ codes "7" ∷ codes "10" ∷ codes "100" ∷ codes "65535" ∷ []
unfolding digits
numbers = refl

-- an instruction and its line
abbrev Row : Type 0
Row = Instr × List ℕ

abbrev rows : List Row
rows =
    (instr.Constant 65535, codes "c 65535\n") ∷
    (instr.External (codes "abcdefgh"), codes "x abcdefgh\n") ∷
    (instr.Automatic 32766, codes "a 32766\n") ∷
    (instr.Text 10, codes "s 10\n") ∷
    (instr.Label 127, codes "l 127\n") ∷
    (instr.Load, codes "v\n") ∷
    (instr.Store, codes "w\n") ∷
    (instr.Negate, codes "n\n") ∷
    (instr.Not, codes "h\n") ∷
    (instr.Increment increment.PreIncrement, codes "i 0\n") ∷
    (instr.Increment increment.PreDecrement, codes "i 1\n") ∷
    (instr.Increment increment.PostIncrement, codes "i 2\n") ∷
    (instr.Increment increment.PostDecrement, codes "i 3\n") ∷
    (instr.Jump 4095, codes "j 4095\n") ∷
    (instr.JumpIfZero 0, codes "z 0\n") ∷
    (instr.Goto, codes "g\n") ∷
    (instr.JumpIfCase 0 20, codes "e 0 20\n") ∷
    (instr.Call 2, codes "k 2\n") ∷
    (instr.Return, codes "r\n") ∷
    (instr.Pop, codes "p\n") ∷
    (instr.Binary op.Or, codes "b |\n") ∷
    (instr.Binary op.And, codes "b &\n") ∷
    (instr.Binary op.Eq, codes "b ==\n") ∷
    (instr.Binary op.Ne, codes "b !=\n") ∷
    (instr.Binary op.Lt, codes "b <\n") ∷
    (instr.Binary op.Le, codes "b <=\n") ∷
    (instr.Binary op.Gt, codes "b >\n") ∷
    (instr.Binary op.Ge, codes "b >=\n") ∷
    (instr.Binary op.Shl, codes "b <<\n") ∷
    (instr.Binary op.Shr, codes "b >>\n") ∷
    (instr.Binary op.Sub, codes "b -\n") ∷
    (instr.Binary op.Add, codes "b +\n") ∷
    (instr.Binary op.Rem, codes "b %\n") ∷
    (instr.Binary op.Mul, codes "b *\n") ∷
    (instr.Binary op.Div, codes "b /\n") ∷
    (instr.Modify op.Shl, codes "m <<\n") ∷
    (instr.Modify op.Div, codes "m /\n") ∷
    []

instructions : map (λ r. instr_line r.0) rows ≡ map (λ r. r.1) rows
unfolding digits
instructions = refl

initial_values : map ival_line (ival.Number 0 ∷ ival.Name (codes "_9") ∷ ival.Text 1023 ∷ []) ≡
    codes "c 0\n" ∷ codes "x _9\n" ∷ codes "s 1023\n" ∷ []
unfolding digits
initial_values = refl

-- a label's target and a string word
other_lines : target_line 4095 ∷ string_line 65535 ∷ [] ≡ codes "t 4095\n" ∷ codes "w 65535\n" ∷ []
unfolding digits
other_lines = refl

vector_with_strings : definition_text (definition.Vector record {
  name = codes "v";
  words = 3;
  values = ival.Text 0 ∷ ival.Number 7 ∷ [];
  strings = 4 ∷ [];
}) ≡ codes "V v 3 2 1\ns 0\nc 7\nw 4\n"
unfolding digits
vector_with_strings = refl

function_with_strings : definition_text (definition.Function record {
  name = codes "f";
  parameters = 1;
  frame = 2;
  targets = 0 ∷ [];
  strings = 4 ∷ [];
  code = instr.Return ∷ [];
}) ≡ codes "F f 1 2 1 1 1\nt 0\nw 4\nr\n"
unfolding digits
function_with_strings = refl

-- Each number is written in decimals, without zeros before it, whatever the line is.
abbrev each : List ℕ
each = 0 ∷ 1 ∷ 9 ∷ 10 ∷ 99 ∷ 100 ∷ 127 ∷ 128 ∷ 255 ∷ 256 ∷ 999 ∷ 1000 ∷ 4095 ∷ 4096 ∷ 9999 ∷ 10000 ∷ 32767 ∷ 32768
    ∷ 65534 ∷ 65535 ∷ []

abbrev decimals : List (List ℕ)
decimals = codes "0" ∷ codes "1" ∷ codes "9" ∷ codes "10" ∷ codes "99" ∷ codes "100" ∷ codes "127" ∷ codes "128"
    ∷ codes "255" ∷ codes "256" ∷ codes "999" ∷ codes "1000" ∷ codes "4095" ∷ codes "4096" ∷ codes "9999"
    ∷ codes "10000" ∷ codes "32767" ∷ codes "32768" ∷ codes "65534" ∷ codes "65535" ∷ []

abbrev after_letter : List ℕ → List (List ℕ)
after_letter letter = map (λ d. letter ++ d ++ codes "\n") decimals

lines_of_numbers : map (λ line. map line each)
    ((λ n. instr_line (instr.Constant n)) ∷ (λ n. instr_line (instr.Automatic n)) ∷ (λ n. instr_line (instr.Text n))
    ∷ (λ n. instr_line (instr.Label n)) ∷ (λ n. instr_line (instr.Jump n)) ∷ (λ n. instr_line (instr.JumpIfZero n))
    ∷ (λ n. instr_line (instr.Call n)) ∷ (λ n. ival_line (ival.Number n)) ∷ (λ n. ival_line (ival.Text n)) ∷ target_line
    ∷ string_line ∷ [])
    ≡ map after_letter (codes "c " ∷ codes "a " ∷ codes "s " ∷ codes "l " ∷ codes "j " ∷ codes "z " ∷ codes "k "
    ∷ codes "c "
    ∷ codes "s " ∷ codes "t " ∷ codes "w " ∷ [])
unfolding digits
lines_of_numbers = refl

lines_of_cases : map (λ n. instr_line (instr.JumpIfCase n n)) each
    ≡ map (λ d. codes "e " ++ d ++ codes " " ++ d ++ codes "\n") decimals
unfolding digits
lines_of_cases = refl

-- Headers: numbers, and how many there are of each.
headers : map (λ n. header_line
    (definition.Vector record { name = codes "v"; words = n; values = []; strings = [] })) each
    ≡ map (λ d. codes "V v " ++ d ++ codes " 0 0\n") decimals
unfolding digits
headers = refl

headers_of_functions : map
    (λ n. header_line (definition.Function record {
      name = codes "f";
      parameters = n;
      frame = n;
      targets = [];
      strings = [];
      code = [];
    })) each
    ≡ map (λ d. codes "F f " ++ d ++ codes " " ++ d ++ codes " 0 0 0\n") decimals
unfolding digits
headers_of_functions = refl

headers_of_long_ones : header_line
    (definition.Function record {
      name = codes "f";
      parameters = 1;
      frame = 2;
      targets = replicate 128 0;
      strings = replicate 1024 0;
      code = replicate 4096 instr.Pop;
    })
    ∷ header_line (definition.Simple record {
      name = codes "x";
      values = replicate 1024
          (ival.Number 0);
      strings = replicate 130 0;
    }) ∷ []
    ≡ codes "F f 1 2 128 1024 4096\n" ∷ codes "X x 1024 130\n" ∷ []
unfolding digits
headers_of_long_ones = refl

-- 130 lines of each kind, in order
bodies : body_lines (definition.Function record {
  name = codes "f";
  parameters = 0;
  frame = 0;
  targets = each;
  strings = each;
  code = replicate 130 instr.Pop;
})
    ≡ after_letter (codes "t ") ++ after_letter (codes "w ") ++ replicate 130 (codes "p\n")
unfolding digits
bodies = refl

bodies_of_values : body_lines
    (definition.Simple record { name = codes "x"; values = map ival.Number each; strings = each })
    ∷ body_lines (definition.Vector record {
      name = codes "x";
      words = 20;
      values = map ival.Number each;
      strings = each;
    }) ∷ []
    ≡ replicate 2 (after_letter (codes "c ") ++ after_letter (codes "w "))
unfolding digits
bodies_of_values = refl

text_of_many_lines : joined (replicate 130 (codes "p\n")) ≡ flat_map (λ n. codes "p\n") (range_with_len 0 130)
text_of_many_lines = refl
