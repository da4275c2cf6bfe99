-- Closed facts: the code of each construct at place 7. A part is often the choice `1?2:3`, whose jumps show its place.
use Rattle.std.specs.Prelude.{◌≡◌, ◌+◌, ℕ, List, [], ◌∷◌, ◌++◌, map, codes, replicate, Option, Some, None, refl}
use Rattle.bword.specs.declared.operators.BinOp.TheVariants as op
use Rattle.blang.specs.declared.code.Instr.{Instr}
use Rattle.blang.specs.declared.code.Instr.TheVariants as instr
use Rattle.blang.specs.declared.code.Increment.TheVariants as increment
use Rattle.blang.specs.Trees.{Identifier, Number, Character, Negate, Not, Indirection, Address, PreIncrement}
use Rattle.blang.specs.Trees.{PreDecrement, PostIncrement, PostDecrement, Expr, Named, Literal, Text, Grouped, Indexed}
use Rattle.blang.specs.Trees.{Called, Postfixed, Prefixed, Binary, Conditional, Assigned, No_arguments, Another, Auto}
use Rattle.blang.specs.Trees.{Extrn, Label, Case, Default, Stmt, Headed, Compound, If, IfElse, While, Switch, Goto}
use Rattle.blang.specs.Trees.{Break, Return, ReturnValue, Evaluate, Empty, Stmts, Nothing, More, Ival_constant}
use Rattle.blang.specs.Trees.{Ival_text, Ival_name, Simple, Vector, Function}
use Rattle.blang.specs.declared.code.Definition as coded
use Rattle.blang.specs.declared.code.Definition.TheVariants as code
use Rattle.blang.specs.declared.code.Ival.TheVariants as ival
use Rattle.blang.specs.Scan.{Entry, NameKind, Automatic, External, Labelled}
use Rattle.blang.specs.Code.{Environment, environment_of, Arms, Fragment, word_code, fragment, code_of, arms_code}
use Rattle.blang.specs.Code.{In_frame, At_label, name_word_code, name_address_code, heading_code}

abbrev entry : List ℕ → NameKind → Entry
entry name kind = record { name = name; kind = kind }

-- two words of the frame, an external, a label and a vector
abbrev names : Environment
names = environment_of (entry (codes "p") (Automatic 0) ∷ entry (codes "q") (Automatic 1) ∷ entry (codes "x") External
    ∷ entry (codes "l") (Labelled 2) ∷ entry (codes "v") (Automatic 4) ∷ [])

abbrev word : List ℕ → Identifier
word text = record { text = text; line = 1 }

abbrev p : Expr
p = Named (word (codes "p"))

abbrev q : Expr
q = Named (word (codes "q"))

abbrev x : Expr
x = Named (word (codes "x"))

abbrev l : Expr
l = Named (word (codes "l"))

abbrev number : ℕ → Expr
number n = Literal (Number n)

abbrev choice : Expr
choice = Conditional (number 1) (number 2) (number 3)

abbrev p_code : List Instr
p_code = instr.Automatic 0 ∷ instr.Load ∷ []

abbrev q_code : List Instr
q_code = instr.Automatic 1 ∷ instr.Load ∷ []

-- the code of the choice at a place
abbrev choice_code : ℕ → List Instr
choice_code place =
    instr.Constant 1 ∷ instr.JumpIfZero (place + 4) ∷ instr.Constant 2 ∷ instr.Jump (place + 5) ∷ instr.Constant 3 ∷ []

-- an expression and its code
abbrev Row : Type 0
Row = Expr × List Instr

abbrev Codes : List Row → Type 0
Codes rows = map (λ r. word_code names r.0 7) rows ≡ map (λ r. r.1) rows

primaries : Codes (
    (p, p_code) ∷
    (x, instr.External (codes "x") ∷ instr.Load ∷ []) ∷
    (l, instr.Label 2 ∷ []) ∷
    (number 5, instr.Constant 5 ∷ []) ∷
    (Literal (Character 98), instr.Constant 98 ∷ []) ∷
    (Text (codes "s") 3, instr.Text 3 ∷ []) ∷
    (Grouped choice, choice_code 7) ∷
    (Indexed p choice, p_code ++ choice_code 9 ++ instr.Binary op.Add ∷ instr.Load ∷ []) ∷
    (Indexed choice p, choice_code 7 ++ p_code ++ instr.Binary op.Add ∷ instr.Load ∷ []) ∷
    (Called p No_arguments, p_code ++ instr.Call 0 ∷ []) ∷
    (Called choice (Another No_arguments q), choice_code 7 ++ q_code ++ instr.Call 1 ∷ []) ∷ (
      Called p (Another (Another No_arguments choice) choice),
      p_code ++ choice_code 9 ++ choice_code 14 ++ instr.Call 2 ∷ [],
    )
    ∷ [])
primaries = refl

operators : Codes (
    (Prefixed Negate 1 choice, choice_code 7 ++ instr.Negate ∷ []) ∷
    (Prefixed Not 1 choice, choice_code 7 ++ instr.Not ∷ []) ∷
    (Prefixed Indirection 1 choice, choice_code 7 ++ instr.Load ∷ []) ∷
    (Binary op.Sub 1 p choice, p_code ++ choice_code 9 ++ instr.Binary op.Sub ∷ []) ∷
    (Binary op.Sub 1 choice p, choice_code 7 ++ p_code ++ instr.Binary op.Sub ∷ []) ∷ (
      Conditional choice choice choice,
      choice_code 7 ++ instr.JumpIfZero 19 ∷ (choice_code 13 ++ instr.Jump 24
          ∷ choice_code 19),
    ) ∷
    [])
operators = refl

-- what is stored to: a name, *e, e[f] and these in parentheses
lvalues : Codes (
    (Prefixed Address 1 p, instr.Automatic 0 ∷ []) ∷
    (Prefixed Address 1 x, instr.External (codes "x") ∷ []) ∷
    (Prefixed Address 1 (Grouped p), instr.Automatic 0 ∷ []) ∷
    (Prefixed Address 1 (Prefixed Indirection 1 choice), choice_code 7) ∷
    (Prefixed Address 1 (Indexed p choice), p_code ++ choice_code 9 ++ instr.Binary op.Add ∷ []) ∷
    (Prefixed Address 1 (Indexed choice p), choice_code 7 ++ p_code ++ instr.Binary op.Add ∷ []) ∷ (
      Prefixed PreIncrement 1 (Prefixed Indirection 1 choice),
      choice_code 7 ++ instr.Increment increment.PreIncrement ∷ [],
    ) ∷ (
      Prefixed PreDecrement 1 (Prefixed Indirection 1 choice),
      choice_code 7 ++ instr.Increment increment.PreDecrement ∷ [],
    ) ∷ (
      Postfixed PostIncrement 1 (Prefixed Indirection 1 choice),
      choice_code 7 ++ instr.Increment increment.PostIncrement
          ∷ [],
    ) ∷ (
      Postfixed PostDecrement 1 (Prefixed Indirection 1 choice),
      choice_code 7 ++ instr.Increment increment.PostDecrement
          ∷ [],
    ) ∷
    (Assigned None 1 p choice, instr.Automatic 0 ∷ (choice_code 8 ++ instr.Store ∷ [])) ∷ (
      Assigned (Some op.Sub) 1 (Indexed choice p) choice,
      choice_code 7 ++ p_code ++ instr.Binary op.Add
          ∷ (choice_code 15 ++ instr.Modify op.Sub ∷ []),
    ) ∷
    [])
lvalues = refl

-- what a scan refuses as an lvalue
others : Codes ((Prefixed Address 1 l, instr.Label 2 ∷ []) ∷ (Prefixed Address 1 choice, instr.Constant 0 ∷ []) ∷ [])
others = refl

-- Statements. A break around which there is no loop goes to 99.
abbrev shown : Fragment → List Instr × ℕ × List ℕ × Arms ℕ
shown f = (f.code 99, f.end, f.targets.labels, f.targets.arms)

abbrev Makes : Stmt → List Instr → ℕ → List ℕ → Arms ℕ → Type 0
Makes s code end labels arms = shown (fragment names s 7) ≡ (code, end, labels, arms)

abbrev block : List Stmt → Stmts
block ss = block_after Nothing ss
  where
    block_after : Stmts → List Stmt → Stmts
    block_after before [] = before
    block_after before (s ∷ ss) = block_after (More before s) ss

of_nothing : Makes Empty [] 7 [] []
of_nothing = refl

of_values : Makes (Evaluate choice) (choice_code 7 ++ instr.Pop ∷ []) 13 [] []
of_values = refl

of_gotos : Makes (Goto choice) (choice_code 7 ++ instr.Goto ∷ []) 13 [] []
of_gotos = refl

of_returned_values : Makes (ReturnValue choice) (choice_code 7 ++ instr.Return ∷ []) 13 [] []
of_returned_values = refl

of_returns : Makes Return (instr.Constant 0 ∷ instr.Return ∷ []) 9 [] []
of_returns = refl

of_breaks : Makes (Break 1) (instr.Jump 99 ∷ []) 8 [] []
of_breaks = refl

-- what statements lead to comes in their order
abbrev here : Stmt → Stmt
here s = Headed (Label (word (codes "l"))) (Headed (Case 1 (Number 5)) (Headed (Default 1) s))

of_headings : Makes (here (Break 1)) (instr.Jump 99 ∷ []) 8 (7 ∷ []) ((Some 5, 7) ∷ (None, 7) ∷ [])
of_headings = refl

of_vectors : Makes
    (Headed (Auto (record { word = word (codes "p"); size = None }
    ∷ record { word = word (codes "v"); size = Some 3 } ∷ []))
    (Headed (Extrn (word (codes "x") ∷ [])) (here (Break 1))))
    (instr.Automatic 4 ∷ instr.Automatic 5 ∷ instr.Store ∷ instr.Pop ∷ instr.Jump 99 ∷ []) 12 (11 ∷ [])
    ((Some 5, 11) ∷ (None, 11) ∷ [])
of_vectors = refl

of_blocks : Makes (Compound (block (here (Break 1) ∷ here (Evaluate choice) ∷ here Empty ∷ [])))
    (instr.Jump 99 ∷ (choice_code 8 ++ instr.Pop ∷ [])) 14 (7 ∷ 8 ∷ 14 ∷ [])
    ((Some 5, 7) ∷ (None, 7) ∷ (Some 5, 8) ∷ (None, 8) ∷ (Some 5, 14) ∷ (None, 14) ∷ [])
of_blocks = refl

of_ifs : Makes (If choice (here (Break 1))) (choice_code 7 ++ instr.JumpIfZero 14 ∷ instr.Jump 99 ∷ []) 14 (13 ∷ [])
    ((Some 5, 13) ∷ (None, 13) ∷ [])
of_ifs = refl

of_elses : Makes (IfElse choice (here (Break 1)) (here (Evaluate choice)))
    (choice_code 7 ++ instr.JumpIfZero 15 ∷ instr.Jump 99 ∷ instr.Jump 21 ∷ (choice_code 15 ++ instr.Pop ∷ []))
    21 (13 ∷ 15 ∷ []) ((Some 5, 13) ∷ (None, 13) ∷ (Some 5, 15) ∷ (None, 15) ∷ [])
of_elses = refl

of_else_breaks : Makes (IfElse choice Empty (Break 1))
    (choice_code 7 ++ instr.JumpIfZero 14 ∷ instr.Jump 15 ∷ instr.Jump 99 ∷ []) 15 [] []
of_else_breaks = refl

of_loops : Makes (While choice (here (Break 1)))
    (choice_code 7 ++ instr.JumpIfZero 15 ∷ instr.Jump 15 ∷ instr.Jump 7 ∷ []) 15 (13 ∷ [])
    ((Some 5, 13) ∷ (None, 13) ∷ [])
of_loops = refl

-- the tests of a switch come after its body, and then its default
of_switches : Makes
    (Switch choice (block (Headed (Case 1 (Number 5)) (Break 1) ∷ Headed (Default 1) (Evaluate (number 6))
    ∷ Headed (Case 1 (Character 98)) (Headed (Label (word (codes "l"))) Empty) ∷ [])))
    (choice_code 7 ++ instr.Jump 17 ∷ instr.Jump 21 ∷ instr.Constant 6 ∷ instr.Pop ∷ instr.Jump 21
    ∷ instr.JumpIfCase 5 13 ∷ instr.JumpIfCase 98 16 ∷ instr.Pop ∷ instr.Jump 14 ∷ []) 21 (16 ∷ []) []
of_switches = refl

of_cases_alone : Makes (Switch choice (block (Headed (Case 1 (Number 5)) Empty ∷ [])))
    (choice_code 7 ++ instr.Jump 14 ∷ instr.Jump 16 ∷ instr.JumpIfCase 5 13 ∷ instr.Pop ∷ []) 16 [] []
of_cases_alone = refl

-- Definitions. A vector has a word more than its constant, and no fewer than its values.
values_of_each_kind : code_of (Simple (word (codes "a")) (Ival_constant (Number 5) ∷ Ival_constant (Character 98)
    ∷ Ival_text (codes "cd") 0 ∷ Ival_text (codes "e") 2 ∷ Ival_name (word (codes "f")) ∷ []))
    ≡ code.Simple (record {
      name = codes "a";
      values = ival.Number 5 ∷ ival.Number 98 ∷ ival.Text 0 ∷ ival.Text 2 ∷ ival.Name (codes "f") ∷ [];
      strings = 25699 ∷ 4 ∷ 1125 ∷ [];
    })
values_of_each_kind = refl

abbrev vector : Option ℕ → ℕ → coded.Definition
vector size n = code_of (Vector (word (codes "v")) size (replicate n (Ival_constant (Number 5))))

abbrev of_words : ℕ → ℕ → coded.Definition
of_words words n =
    code.Vector (record { name = codes "v"; words = words; values = replicate n (ival.Number 5); strings = [] })

vectors : vector None 0 ∷ vector None 3 ∷ vector (Some 0) 1 ∷ vector (Some 5) 2 ∷ vector (Some 1) 2 ∷ vector (Some 1) 3
    ∷ [] ≡ of_words 1 0 ∷ of_words 3 3 ∷ of_words 1 1 ∷ of_words 6 2 ∷ of_words 2 2 ∷ of_words 3 3 ∷ []
vectors = refl

vector_with_string : code_of (Vector (word (codes "v")) None (Ival_text (codes "e") 0 ∷ []))
    ≡ code.Vector (record { name = codes "v"; words = 1; values = ival.Text 0 ∷ []; strings = 1125 ∷ [] })
vector_with_string = refl

-- f(a, b) { auto c; ; l: "e"; }
function_with_string : code_of (Function (word (codes "f")) (word (codes "a") ∷ word (codes "b") ∷ [])
    (Headed (Auto (record { word = word (codes "c"); size = None } ∷ []))
    (Compound (block (Empty ∷ Headed (Label (word (codes "l"))) (Evaluate (Text (codes "e") 0)) ∷ [])))))
    ≡ code.Function (record {
      name = codes "f";
      parameters = 2;
      frame = 3;
      targets = 0 ∷ [];
      strings = 1125 ∷ [];
      code = instr.Text 0 ∷ instr.Pop ∷ instr.Constant 0 ∷ instr.Return ∷ [];
    })
function_with_string = refl

-- Each number, in each place of the code.
abbrev numbers : List ℕ
numbers = 0 ∷ 1 ∷ 4 ∷ 10 ∷ 13 ∷ 127 ∷ 128 ∷ 255 ∷ 256 ∷ 32767 ∷ 32768 ∷ 65534 ∷ 65535 ∷ []

codes_of_numbers : map (λ (make : ℕ → Expr). map (λ n. word_code names (make n) 7) numbers)
    ((λ n. Literal (Number n)) ∷ (λ n. Literal (Character n)) ∷ (λ n. Text [] n) ∷ [])
    ≡ map (λ (i : ℕ → Instr). map (λ n. i n ∷ []) numbers) (instr.Constant ∷ instr.Constant ∷ instr.Text ∷ [])
codes_of_numbers = refl

codes_of_names : map (λ n. map (λ r. name_word_code r (codes "y")) (In_frame n ∷ At_label n ∷ [])) numbers
    ≡ map (λ n. (instr.Automatic n ∷ instr.Load ∷ []) ∷ (instr.Label n ∷ []) ∷ []) numbers
codes_of_names = refl

addresses_of_names : map (λ n. map (λ r. name_address_code r (codes "y")) (In_frame n ∷ At_label n ∷ [])) numbers
    ≡ map (λ n. instr.Automatic n ∷ instr.Label n ∷ []) numbers
addresses_of_names = refl

codes_of_vectors : map
    (λ k. heading_code (λ y. In_frame k) (Auto (record { word = word (codes "v"); size = Some 3 } ∷ []))) numbers
    ≡ map (λ k. instr.Automatic k ∷ instr.Automatic (k + 1) ∷ instr.Store ∷ instr.Pop ∷ []) numbers
codes_of_vectors = refl

codes_of_cases : arms_code (map (λ n. (Some n, n)) numbers) ∷ map (λ n. arms_code ((None, n) ∷ [])) numbers
    ≡ (map (λ n. instr.JumpIfCase n n) numbers ++ instr.Pop ∷ []) ∷ map (λ n. instr.Pop ∷ instr.Jump n ∷ []) numbers
codes_of_cases = refl

-- each place of a jump
abbrev places : List ℕ
places = 0 ∷ 1 ∷ 127 ∷ 128 ∷ 255 ∷ 256 ∷ 1000 ∷ 4094 ∷ []

abbrev code_at : Stmt → ℕ → List Instr
code_at s place = (fragment names s place).code 99

places_of_jumps : map (λ s. map (code_at s) places)
    (If p Empty ∷ IfElse p Empty Empty ∷ While p Empty ∷ While p (Break 1) ∷ Switch p Nothing ∷ [])
    ≡ map (λ (make : ℕ → List Instr). map (λ n. p_code ++ make n) places) (
    (λ n. instr.JumpIfZero (n + 3) ∷ [])
    ∷ (λ n. instr.JumpIfZero (n + 4) ∷ instr.Jump (n + 4) ∷ [])
    ∷ (λ n. instr.JumpIfZero (n + 4) ∷ instr.Jump n ∷ [])
    ∷ (λ n. instr.JumpIfZero (n + 5) ∷ instr.Jump (n + 5) ∷ instr.Jump n ∷ [])
    ∷ (λ n. instr.Jump (n + 4) ∷ instr.Jump (n + 5) ∷ instr.Pop ∷ [])
    ∷ [])
places_of_jumps = refl

places_of_choices : map (word_code names choice) places ≡ map choice_code places
places_of_choices = refl
