-- Closed facts: each operator, letters and statement in each place where a rule hands it on: how it binds, its fault,
-- its code, and the labels and cases in it.
use Rattle.std.specs.Prelude.{◌≡◌, ◌≤◌, ◌+◌, ◌-◌, ◌*◌, ℕ, true, false, List, [], ◌∷◌, ◌++◌, map, length, codes, Option}
use Rattle.std.specs.Prelude.{Some, None, replicate, Ok, Err, refl, ◌⊎◌}
use Rattle.std.specs.List.{range_with_len, flat_map}
use Rattle.bword.specs.declared.operators.BinOp.TheVariants as op
use Rattle.blang.specs.declared.token.About.{About}
use Rattle.blang.specs.declared.token.Diagnostic.{Diagnostic}
use Rattle.blang.specs.declared.token.Letters.{Letters}
use Rattle.blang.specs.declared.token.Token.{Token}
use Rattle.blang.specs.declared.token.About.TheVariants as about
use Rattle.blang.specs.declared.token.Letters.TheVariants as letters
use Rattle.blang.specs.declared.token.Token.TheVariants as token
use Rattle.blang.specs.declared.code.Instr.{Instr}
use Rattle.blang.specs.declared.code.Instr.TheVariants as instr
use Rattle.blang.specs.declared.code.Ival.TheVariants as ival
use Rattle.blang.specs.declared.code.Definition.TheVariants as code
use Rattle.blang.specs.Trees.{Number, Character, Named, Literal, Grouped, Binary, Assigned, Auto, Label, Case, Stmt}
use Rattle.blang.specs.Trees.{Headed, Return, Ival_constant, Ival_text, Ival_name, Definition, Simple, Vector, Function}
use Rattle.blang.specs.Trees.{bare, Break, Identifier, Empty, While, If, IfElse, Switch, Nothing}
use Rattle.blang.specs.Walk.{TextAt, AutoHere, spell_definition}
use Rattle.blang.specs.WellFormed.{Binds, is_open, packed, OffsetsFrom, AllFormed, IsProgram, BeginsProgram, IsViable}
use Rattle.blang.specs.WellFormed.{StopsAt, fault_at, IsPart, IsFormed}
use Rattle.blang.specs.Scan.{Entry, External, fault, name_fault, word_fault, is_lvalue, scan_case, scan_default}
use Rattle.blang.specs.Scan.{rest_of, scan, Around, no_scope, with_declaration, scan_event, function_events}
use Rattle.blang.specs.Scan.{function_scope, scanned, inner_fault, Automatic, Scope}
use Rattle.blang.specs.Code.{Outside, In_frame, word_code, vector_code, heading_code, Fragment, fragment, ival_code}
use Rattle.blang.specs.Code.{vector_constant, vector_words, code_of, or_too_large, fault_of}
use Rattle.blang.specs.BindRows.{at, no_claim, pick, pick_at, set}
use Rattle.blang.specs.TokenRows.{at_line, inner_ones, lines}
use Rattle.blang.specs.VariantRows.{edges, operators}
use Rattle.blang.specs.WalkRows.{word, one, statements, outer, events}

-- a claim on each
abbrev pub each : {A : Type 0} → (A → Type 0) → List A → Type 0
each claim [] = Unit {0}
each claim (x ∷ xs) = claim x × each claim xs

-- How operators bind: a part that is an assignment, and one that is a conditional.
operators_bind : each (λ op. Binds (Binary op 1 set pick) 3) operators
    ≡ each (λ r. (r ≤ 3) × at r × pick_at (r - 1))
    (7 ∷ 6 ∷ 5 ∷ 5 ∷ 4 ∷ 4 ∷ 4 ∷ 4 ∷ 3 ∷ 3 ∷ 2 ∷ 2 ∷ 1 ∷ 1 ∷ 1 ∷ [])
operators_bind = refl

bound_at_each : each (λ n. Binds (Binary op.Add 1 one one) n × Binds pick n × Binds set n) edges
    ≡ each (λ n. ((2 ≤ n) × no_claim × no_claim) × pick_at n × at n) edges
bound_at_each = refl

-- where an else would be the statement's own
open_within : map (λ s. map (λ f. is_open (f s)) outer) statements
    ≡ map (λ b. b ∷ false ∷ true ∷ false ∷ b ∷ b ∷ false ∷ [])
    (false ∷ false ∷ true ∷ false ∷ false ∷ false ∷ false ∷ false ∷ false ∷ false ∷ false ∷ false ∷ [])
open_within = refl

-- String words: each byte in each half, and more than a hundred strings.
packed_halves : map (λ b. packed (b ∷ []) ∷ packed (b ∷ 7 ∷ []) ∷ packed (7 ∷ b ∷ []) ∷ []) (range_with_len 0 256)
    ≡ map (λ b. ((b + 1024) ∷ []) ∷ ((b + 1792) ∷ 4 ∷ []) ∷ ((7 + 256 * b) ∷ 4 ∷ []) ∷ []) (range_with_len 0 256)
packed_halves = refl

abbrev string_at : ℕ → TextAt
string_at n = record { bytes = codes "a"; offset = n }

offsets_each : each (λ n. OffsetsFrom n (string_at n ∷ [])) edges ≡ each (λ n. (n ≡ n) × no_claim) edges
offsets_each = refl

offsets_of_many : OffsetsFrom 0 (map string_at (range_with_len 0 150)) ≡ each (λ n. n ≡ n) (range_with_len 0 150)
offsets_of_many = refl

abbrev many_definitions : List Definition
many_definitions = map (λ n. Simple (word n) (Ival_text (codes "a") n ∷ [])) (range_with_len 0 150)

all_formed : AllFormed many_definitions ≡ each (λ n. (n ≡ 0) × no_claim) (range_with_len 0 150)
all_formed = refl

-- Where tokens stop being those of a program.
abbrev no_diagnostic : Diagnostic
no_diagnostic = record { letters = letters.Syntax; about = about.Nothing; line = 0 }

abbrev many_tokens : List Token
many_tokens = map token.Number (range_with_len 0 150)

viable_ends : IsViable many_tokens token.End ≡ IsProgram many_tokens
viable_ends = refl

viable_tokens : each (λ t. IsViable many_tokens t) inner_ones
    ≡ each (λ t. BeginsProgram (many_tokens ++ t ∷ [])) inner_ones
viable_tokens = refl

ends_after_many : StopsAt many_tokens (at_line 2 token.End) None
    ≡ (◌≡◌ {A = Token} token.End token.End × IsProgram many_tokens)
ends_after_many = refl

stops_after_many : StopsAt many_tokens (at_line 2 token.Comma) (Some no_diagnostic)
    ≡ (BeginsProgram many_tokens × (IsViable many_tokens token.Comma → ⊥)
    × (no_diagnostic ≡ fault_at (at_line 2 token.Comma)))
stops_after_many = refl

part_of_many : IsPart many_tokens ≡ ((many_tokens ≡ [])
    ⊎ ((d : Definition) × (t : Token) × (more : List Token) × IsFormed d
    × (map bare (spell_definition d) ≡ many_tokens ++ t ∷ more)))
part_of_many = refl

abbrev all_letters : List Letters
all_letters =
    letters.OpenComment ∷ letters.Character ∷ letters.LongName ∷ letters.Constant ∷ letters.Syntax
    ∷ letters.Redeclared ∷ letters.NotLvalue ∷ letters.TooManyNames ∷ letters.TooManyCases ∷ letters.Undefined
    ∷ letters.TooLarge ∷ []

abbrev diagnostic : Letters → About → ℕ → Diagnostic
diagnostic l about line = record { letters = l; about = about; line = line }

faults_of_tokens : map (λ l. fault_at (at_line 256 (token.Bad l))) all_letters
    ≡ map (λ l. diagnostic l about.Nothing 256) all_letters
faults_of_tokens = refl

faults_of_other_tokens : map (λ t. fault_at (at_line 256 t)) inner_ones
    ≡ map (λ t. diagnostic letters.Syntax about.Nothing 256) inner_ones
faults_of_other_tokens = refl

-- Faults of a scan.
abbrev abouts : List About
abouts = about.Nothing ∷ about.Case ∷ about.Break ∷ about.Default ∷ about.Name (codes "a") ∷ []

faults : map (λ l. fault l 256 ∷ name_fault l (word 3) ∷ []) all_letters
    ≡ map (λ l. diagnostic l about.Nothing 256 ∷ diagnostic l (about.Name (97 ∷ 3 ∷ [])) 3 ∷ []) all_letters
faults = refl

faults_of_words : map (λ l. map (λ w. word_fault l w 256) abouts) all_letters
    ≡ map (λ l. map (λ w. diagnostic l w 256) abouts) all_letters
faults_of_words = refl

abbrev entries : List Entry
entries = map (λ n. record { name = 97 ∷ n ∷ []; kind = External }) (range_with_len 0 128)

-- each of 128 names is an lvalue, in parentheses too
lvalues : map (λ n. is_lvalue entries (Named (word n)) ∷ is_lvalue entries (Grouped (Named (word n))) ∷ [])
    (range_with_len 0 130) ≡ replicate 128 (true ∷ true ∷ []) ++ replicate 2 (false ∷ false ∷ [])
lvalues = refl

redeclared : map (λ n. with_declaration (word n) External entries) (range_with_len 0 128)
    ≡ map (λ n. Err (diagnostic letters.Redeclared (about.Name (97 ∷ n ∷ [])) n)) (range_with_len 0 128)
redeclared = refl

-- each event is scanned as it is
abbrev in_a_switch : Scope
in_a_switch = record no_scope { switches = record { constants = []; has_default = false } ∷ [] }

scanned_alone : map (λ e. scanned (e ∷ []) (Ok in_a_switch)) events ≡ map (λ e. scan_event e in_a_switch) events
scanned_alone = refl

-- a function's 120 parameters, and one of them twice
abbrev parameters : List Identifier
parameters = map word (range_with_len 0 120)

parameters_seen : function_events parameters Empty ≡ map (λ n. AutoHere (word n) None) (range_with_len 0 120)
parameters_seen = refl

scope_of_parameters : function_scope parameters Empty ≡ Ok (record no_scope {
  names = map (λ n. record { name = 97 ∷ n ∷ []; kind = Automatic n }) (range_with_len 0 120);
  frame = 120;
})
scope_of_parameters = refl

inner_faults : inner_fault (Function (word 3) [] (Break 5)) ∷ inner_fault (Function (word 3) parameters Empty)
    ∷ inner_fault (Function (word 3) (parameters ++ word 0 ∷ []) Empty) ∷ []
    ≡ Some (diagnostic letters.Syntax about.Break 5) ∷ None
    ∷ Some (diagnostic letters.Redeclared (about.Name (97 ∷ 0 ∷ [])) 0) ∷ []
inner_faults = refl

-- The switches around stay, more than a hundred of them.
abbrev around : ℕ → Around
around n = record { constants = n ∷ []; has_default = false }

abbrev many_around : List Around
many_around = map around (range_with_len 0 150)

others_stay : rest_of (around 7 ∷ many_around) ≡ many_around
others_stay = refl

case_of_many : scan_case 1 9 no_scope (around 7 ∷ many_around)
    ≡ Ok (record no_scope {
      switches = record { constants = 7 ∷ 9 ∷ []; has_default = false } ∷ many_around;
      cases = 1;
    })
case_of_many = refl

default_of_many : scan_default 1 no_scope (around 7 ∷ many_around)
    ≡ Ok (record no_scope { switches = record { constants = 7 ∷ []; has_default = true } ∷ many_around })
default_of_many = refl

second_defaults : map (λ n. scan_default n no_scope (record { constants = []; has_default = true } ∷ [])) lines
    ≡ map (λ n. Err (diagnostic letters.Redeclared about.Default n)) lines
second_defaults = refl

-- a name is compared with each of 150 defined before
abbrev names_before : List (List ℕ)
names_before = map (λ i. 97 ∷ i ∷ []) (range_with_len 0 150)

defined_before : map (λ n. scan names_before (Simple (word n) [])) (range_with_len 0 152)
    ≡ map (λ n. Some (diagnostic letters.Redeclared (about.Name (97 ∷ n ∷ [])) n)) (range_with_len 0 150)
    ++ None ∷ None ∷ []
defined_before = refl

fault_before_each : map (λ n. fault_of names_before (Simple (word n) [])) (range_with_len 0 152)
    ≡ map (λ n. Some (diagnostic letters.Redeclared (about.Name (97 ∷ n ∷ [])) n)) (range_with_len 0 150)
    ++ None ∷ None ∷ []
fault_before_each = refl

-- Code: each operator, and vectors at each place.
binaries : map (λ op. word_code (λ x. Outside) (Binary op 1 one (Literal (Number 2))) 5) operators
    ≡ map (λ op. instr.Constant 1 ∷ instr.Constant 2 ∷ instr.Binary op ∷ []) operators
binaries = refl

modifying : map (λ op. word_code (λ x. In_frame 3) (Assigned (Some op) 1 (Named (word 3)) one) 5) operators
    ≡ map (λ op. instr.Automatic 3 ∷ instr.Constant 1 ∷ instr.Modify op ∷ []) operators
modifying = refl

abbrev sets_vector : ℕ → List Instr
sets_vector n = instr.Automatic n ∷ instr.Automatic (n + 1) ∷ instr.Store ∷ instr.Pop ∷ []

vectors : map (λ n. vector_code (λ x. Outside) (In_frame n) (Some n)) edges ≡ map sets_vector edges
vectors = refl

many_vectors : heading_code (λ x. In_frame 5)
    (Auto (map (λ n. record { word = word n; size = Some n }) (range_with_len 0 120)))
    ≡ flat_map (λ n. sets_vector 5) (range_with_len 0 120)
many_vectors = refl

-- each statement in each place of another one
abbrev pieces : Stmt → ℕ → Fragment
pieces s p = fragment (λ x. Outside) s p

abbrev instrs : Stmt → (place out : ℕ) → List Instr
instrs s p out = (pieces s p).code out

abbrev count : Stmt → ℕ
count s = length (instrs s 0 0)

code_within : map (λ s. map (λ f. instrs (f s) 0 99) outer) statements
    ≡ map (λ s. instrs s 0 99 ∷ instrs s 0 99
    ∷ (instr.Constant 1 ∷ instr.JumpIfZero (2 + count s) ∷ instrs s 2 99)
    ∷ (instr.Constant 1 ∷ instr.JumpIfZero (3 + count s) ∷ instrs s 2 99 ++ instr.Jump (3 + count s) ∷ [])
    ∷ (instr.Constant 1 ∷ instr.JumpIfZero 3 ∷ instr.Jump (3 + count s) ∷ instrs s 3 99)
    ∷ (instr.Constant 1 ∷ instr.JumpIfZero (3 + count s) ∷ instrs s 2 (3 + count s) ++ instr.Jump 0 ∷ [])
    ∷ (instr.Constant 1 ∷ instr.Jump (3 + count s) ∷ instrs s 2 (4 + count s)
    ++ instr.Jump (4 + count s) ∷ instr.Pop ∷ [])
    ∷ []) statements
code_within = refl

code_alone : map (λ s. instrs s 5 99) statements
    ≡ [] ∷ [] ∷ (instr.Constant 1 ∷ instr.JumpIfZero 7 ∷ [])
    ∷ (instr.Constant 1 ∷ instr.JumpIfZero 8 ∷ instr.Jump 8 ∷ [])
    ∷ (instr.Constant 1 ∷ instr.JumpIfZero 8 ∷ instr.Jump 5 ∷ [])
    ∷ (instr.Constant 1 ∷ instr.Jump 8 ∷ instr.Jump 9 ∷ instr.Pop ∷ []) ∷ (instr.Constant 1 ∷ instr.Goto ∷ [])
    ∷ (instr.Jump 99 ∷ []) ∷ (instr.Constant 0 ∷ instr.Return ∷ []) ∷ (instr.Constant 1 ∷ instr.Return ∷ [])
    ∷ (instr.Constant 1 ∷ instr.Pop ∷ []) ∷ [] ∷ []
code_alone = refl

-- a loop, a choice and a switch at each place
placed_code : map (λ p. map (λ s. instrs s p 99) (While one Empty ∷ If one Empty ∷ IfElse one Empty Empty
    ∷ Switch one Nothing ∷ [])) edges
    ≡ map (λ p. (instr.Constant 1 ∷ instr.JumpIfZero (p + 3) ∷ instr.Jump p ∷ [])
    ∷ (instr.Constant 1 ∷ instr.JumpIfZero (p + 2) ∷ [])
    ∷ (instr.Constant 1 ∷ instr.JumpIfZero (p + 3) ∷ instr.Jump (p + 3) ∷ [])
    ∷ (instr.Constant 1 ∷ instr.Jump (p + 3) ∷ instr.Jump (p + 4) ∷ instr.Pop ∷ []) ∷ []) edges
placed_code = refl

-- a label or a case before each statement, in each place of another one
labels_within : map (λ f. (pieces (f (Headed (Label (word 9)) Return)) 0).targets.labels) outer
    ≡ (0 ∷ 0 ∷ []) ∷ (0 ∷ []) ∷ (2 ∷ []) ∷ (2 ∷ []) ∷ (3 ∷ []) ∷ (2 ∷ []) ∷ (2 ∷ []) ∷ []
labels_within = refl

cases_within : map (λ f. (pieces (f (Headed (Case 1 (Number 5)) Return)) 0).targets.arms) outer
    ≡ ((Some 5, 0) ∷ []) ∷ ((Some 5, 0) ∷ []) ∷ ((Some 5, 2) ∷ []) ∷ ((Some 5, 2) ∷ []) ∷ ((Some 5, 3) ∷ [])
    ∷ ((Some 5, 2) ∷ []) ∷ [] ∷ []
cases_within = refl

bodies : map (λ s. code_of (Function (word 3) [] s)) statements
    ≡ map (λ s. code.Function (record {
      name = 97 ∷ 3 ∷ [];
      parameters = 0;
      frame = 0;
      targets = (pieces s 0).targets.labels;
      strings = [];
      code = instrs s 0 (count s) ++ instr.Constant 0 ∷ instr.Return ∷ [];
    })) statements
bodies = refl

-- Initial values, and what is made of more than a hundred.
values : map (λ n. ival_code (Ival_constant (Number n)) ∷ ival_code (Ival_constant (Character n))
    ∷ ival_code (Ival_text (codes "a") n) ∷ ival_code (Ival_name (word n)) ∷ []) edges
    ≡ map (λ n. ival.Number n ∷ ival.Number n ∷ ival.Text n ∷ ival.Name (97 ∷ n ∷ []) ∷ []) edges
values = refl

constants : map (λ n. vector_constant (Some n) ∷ vector_words (Some n) [] ∷ []) edges
    ≡ map (λ n. n ∷ (n + 1) ∷ []) edges
constants = refl

words_of_values : map (λ n. vector_words (Some 4) (map (λ i. Ival_constant (Number i)) (range_with_len 0 n)))
    (4 ∷ 5 ∷ 6 ∷ 9 ∷ 10 ∷ 11 ∷ 100 ∷ 101 ∷ 150 ∷ []) ≡ 5 ∷ 5 ∷ 6 ∷ 9 ∷ 10 ∷ 11 ∷ 100 ∷ 101 ∷ 150 ∷ []
words_of_values = refl

many_values : code_of (Simple (word 3) (map (λ i. Ival_text (codes "a") i) (range_with_len 0 150)))
    ∷ code_of (Vector (word 3) None (map (λ i. Ival_text (codes "a") i) (range_with_len 0 150))) ∷ []
    ≡ code.Simple (record {
      name = 97 ∷ 3 ∷ [];
      values = map ival.Text (range_with_len 0 150);
      strings = replicate 150 1121;
    })
    ∷ code.Vector (record {
      name = 97 ∷ 3 ∷ [];
      words = 150;
      values = map ival.Text (range_with_len 0 150);
      strings = replicate 150 1121;
    }) ∷ []
many_values = refl

-- a definition that is too large, on each line, and the fault of a scan before that
abbrev too_many : ℕ → Definition
too_many n = Simple (record { text = codes "a"; line = n }) (replicate 1025 (Ival_constant (Number 0)))

too_large : map (λ n. or_too_large None n (code_of (too_many n)) ∷ fault_of [] (too_many n) ∷ []) lines
    ≡ map (λ n. replicate 2 (Some (diagnostic letters.TooLarge about.Nothing n))) lines
too_large = refl

not_too_large : map (λ n. or_too_large None n (code_of (Simple (word 3) []))) lines ≡ map (λ n. None) lines
not_too_large = refl

abbrev undefined : Option Diagnostic
undefined = Some (diagnostic letters.Undefined about.Nothing 3)

faulty_and_too_large : map (λ n. or_too_large undefined n (code_of (too_many n))) lines ≡ map (λ n. undefined) lines
faulty_and_too_large = refl
