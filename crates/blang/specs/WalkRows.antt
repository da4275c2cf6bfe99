-- Closed facts: what a walk meets at each kind of token, event, line and number, and each statement in each place of
-- another one. Lists of more than a hundred parts.
use Rattle.std.specs.Prelude.{◌≡◌, ℕ, List, [], ◌∷◌, ◌++◌, map, replicate, Some, None, true, false, suc, refl}
use Rattle.std.specs.List.{range_with_len, flat_map}
use Rattle.bword.specs.declared.operators.BinOp.TheVariants as op
use Rattle.blang.specs.declared.token.Placed.{Placed}
use Rattle.blang.specs.declared.token.Token.{Token}
use Rattle.blang.specs.declared.token.Keyword.TheVariants as keyword
use Rattle.blang.specs.declared.token.Token.TheVariants as token
use Rattle.blang.specs.Trees.{Identifier, Number, PrefixOp, Negate, Not, Indirection, Address, PreIncrement}
use Rattle.blang.specs.Trees.{PreDecrement, PostIncrement, PostDecrement, Expr, Literal, Text, Postfixed, Prefixed}
use Rattle.blang.specs.Trees.{Binary, Assigned, Declared, Auto, Extrn, Label, Case, Default, Stmt, Headed, Compound, If}
use Rattle.blang.specs.Trees.{IfElse, While, Switch, Goto, Break, Return, ReturnValue, Evaluate, Empty, Nothing, More}
use Rattle.blang.specs.Trees.{Ival_constant, Ival_text, Simple, Vector, Ival, Function}
use Rattle.blang.specs.Walk.{Event, AutoHere, ExtrnHere, Mention, LabelHere, CaseHere, DefaultHere, BreakHere}
use Rattle.blang.specs.Walk.{LvalueWanted, LoopBegins, LoopEnds, SwitchBegins, SwitchEnds, Said, TextHere, Noted, Level}
use Rattle.blang.specs.Walk.{◌▸◌, tokens_in, events_in, levels_in, plain, lined, name, text, level, walk_commas}
use Rattle.blang.specs.Walk.{walk_list, prefix_events, walk, walk_size, walk_heading, walk_statement, walk_value}
use Rattle.blang.specs.Walk.{walk_values, walk_function, spell_all, spell_definition}
use Rattle.blang.specs.TokenRows.{at_line, inner_ones, last_ones, lines}

abbrev edges : List ℕ
edges = 0 ∷ 1 ∷ 2 ∷ 127 ∷ 128 ∷ 255 ∷ 256 ∷ 257 ∷ 32767 ∷ 32768 ∷ 32769 ∷ 65534 ∷ 65535 ∷ 65536 ∷ []

abbrev pub word : ℕ → Identifier
word n = record { text = 97 ∷ n ∷ []; line = n }

abbrev named : ℕ → Placed
named n = at_line n (token.Name (97 ∷ n ∷ []))

abbrev pub one : Expr
one = Literal (Number 1)

abbrev number_1 : Placed
number_1 = at_line 0 (token.Number 1)

abbrev tokens : List Token
tokens = inner_ones ++ last_ones

abbrev pub events : List Event
events =
    AutoHere (word 3) None ∷ AutoHere (word 3) (Some 5) ∷ ExtrnHere (word 3) ∷ Mention true (word 3)
    ∷ Mention false (word 3) ∷ LabelHere (word 3) ∷ CaseHere 256 7 ∷ DefaultHere 256 ∷ BreakHere 256
    ∷ LvalueWanted 256 one ∷ LoopBegins ∷ LoopEnds ∷ SwitchBegins ∷ SwitchEnds ∷ []

-- Tokens and events by themselves.
plain_ones : map plain tokens ≡ map (λ t. Said (at_line 0 t)) tokens
plain_ones = refl

lined_ones : map (λ n. map (λ t. lined t n) tokens) lines ≡ map (λ n. map (λ t. Said (at_line n t)) tokens) lines
lined_ones = refl

level_ones : map (λ t. level t (Said number_1)) tokens ≡ map (λ t. Level (at_line 0 t) (Said number_1) []) tokens
level_ones = refl

noted_at_names : map (λ e. name (word 3) e) events ≡ map (λ e. Said (named 3) ▸ Noted e) events
noted_at_names = refl

noted : map (λ e. events_in (Noted e)) events ≡ map (λ e. e ∷ []) events
noted = refl

-- after a level each of many events
abbrev many_events : List Event
many_events = flat_map (λ n. CaseHere n n ∷ events) (range_with_len 0 10)

noted_after : events_in (Level number_1 (Noted LoopBegins) many_events) ≡ LoopBegins ∷ many_events
noted_after = refl

-- Strings.
abbrev bytes : List ℕ
bytes = range_with_len 0 254

texts : map (λ n. text bytes n ∷ walk (Text bytes n) ∷ walk_value (Ival_text bytes n) ∷ []) edges
    ≡ map (λ n. replicate 3 (TextHere (record { bytes = bytes; offset = n }))) edges
texts = refl

-- Lists.
abbrev after_commas : (ℕ → Token) → ℕ → ℕ → List Placed
after_commas t from n = flat_map (λ i. at_line 0 token.Comma ∷ at_line 0 (t i) ∷ []) (range_with_len from n)

commas : tokens_in (walk_commas (λ n. plain (token.Number n)) (range_with_len 1 150))
    ≡ after_commas token.Number 1 150
commas = refl

listed : tokens_in (walk_list (λ n. plain (token.Number n)) (range_with_len 1 150))
    ≡ number_1 ∷ after_commas token.Number 2 149
listed = refl

values : tokens_in (walk_values (map (λ n. Ival_constant (Number n)) (range_with_len 1 150)))
    ≡ number_1 ∷ after_commas token.Number 2 149 ++ at_line 0 token.Semicolon ∷ []
values = refl

abbrev names_after_commas : ℕ → ℕ → List Placed
names_after_commas from n = flat_map (λ i. at_line 0 token.Comma ∷ named i ∷ []) (range_with_len from n)

parameters : tokens_in (walk_function (map word (range_with_len 1 150)) Empty)
    ≡ at_line 0 token.OpenParen ∷ named 1 ∷ names_after_commas 2 149
    ++ at_line 0 token.CloseParen ∷ at_line 0 token.Semicolon ∷ []
parameters = refl

function_of_many : spell_definition (Function (word 3) (map word (range_with_len 1 150)) Empty)
    ≡ named 3 ∷ at_line 0 token.OpenParen ∷ named 1 ∷ names_after_commas 2 149
    ++ at_line 0 token.CloseParen ∷ at_line 0 token.Semicolon ∷ []
function_of_many = refl

abbrev many_values : List Ival
many_values = map (λ n. Ival_constant (Number n)) (range_with_len 1 150)

definitions_of_many : spell_definition (Simple (word 3) many_values)
    ∷ spell_definition (Vector (word 3) (Some 7) many_values) ∷ []
    ≡ (named 3 ∷ number_1 ∷ after_commas token.Number 2 149 ++ at_line 0 token.Semicolon ∷ [])
    ∷ (named 3 ∷ at_line 0 token.OpenBracket ∷ at_line 0 (token.Number 7) ∷ at_line 0 token.CloseBracket ∷ number_1
    ∷ after_commas token.Number 2 149 ++ at_line 0 token.Semicolon ∷ []) ∷ []
definitions_of_many = refl

imports : tokens_in (walk_heading (Extrn (map word (range_with_len 1 150))))
    ≡ at_line 0 (token.Keyword keyword.Extrn) ∷ named 1 ∷ names_after_commas 2 149 ++ at_line 0 token.Semicolon ∷ []
imports = refl

abbrev declared : ℕ → Declared
declared n = record { word = word n; size = None }

declarations : tokens_in (walk_heading (Auto (map declared (range_with_len 1 150))))
    ≡ at_line 0 (token.Keyword keyword.Auto) ∷ named 1 ∷ names_after_commas 2 149 ++ at_line 0 token.Semicolon ∷ []
declarations = refl

events_of_declarations : events_in (walk_heading (Auto (map declared (range_with_len 1 150))))
    ≡ map (λ n. AutoHere (word n) None) (range_with_len 1 150)
events_of_declarations = refl

sizes : map (λ n. walk_size (Some n)) edges ≡ map (λ n. Said (at_line 0 (token.Number n))) edges
sizes = refl

definitions : spell_all (map (λ n. Simple (word n) []) (range_with_len 1 150))
    ≡ flat_map (λ n. named n ∷ at_line 0 token.Semicolon ∷ []) (range_with_len 1 150)
definitions = refl

-- Lines of operators.
abbrev wanted : ℕ → Event
wanted n = LvalueWanted n one

prefixes : map (λ n. map (λ op. prefix_events op n one) (Address ∷ PreIncrement ∷ PreDecrement ∷ Negate ∷ Not
    ∷ Indirection ∷ [])) lines ≡ map (λ n. replicate 3 (wanted n ∷ []) ++ replicate 3 []) lines
prefixes = refl

abbrev prefixed_tokens : List (PrefixOp × Token)
prefixed_tokens =
    (Address, token.Operator op.And) ∷ (PreIncrement, token.Increment) ∷ (PreDecrement, token.Decrement)
    ∷ (Negate, token.Operator op.Sub) ∷ (Not, token.Not) ∷ (Indirection, token.Operator op.Mul) ∷ []

prefixed : map (λ n. map (λ p. tokens_in (walk (Prefixed p.0 n one))) prefixed_tokens) lines
    ≡ map (λ n. map (λ p. at_line n p.1 ∷ number_1 ∷ []) prefixed_tokens) lines
prefixed = refl

lines_of_prefixes : map (λ n. events_in (walk (Prefixed Address n one))) lines ≡ map (λ n. wanted n ∷ []) lines
lines_of_prefixes = refl

postfixed : map (λ n. walk (Postfixed PostIncrement n one) ∷ walk (Postfixed PostDecrement n one) ∷ []) lines
    ≡ map (λ n. (Said number_1 ▸ Noted (wanted n) ▸ Said (at_line n token.Increment))
    ∷ (Said number_1 ▸ Noted (wanted n) ▸ Said (at_line n token.Decrement)) ∷ []) lines
postfixed = refl

binaries : map (λ n. tokens_in (walk (Binary op.Shl n one one))) lines
    ≡ map (λ n. number_1 ∷ at_line n (token.Operator op.Shl) ∷ number_1 ∷ []) lines
binaries = refl

abbrev assigned : ℕ → Expr
assigned n = Assigned (Some op.Add) n one one

assignments : map (λ n. tokens_in (walk (assigned n))) lines
    ≡ map (λ n. number_1 ∷ at_line n (token.Assign (Some op.Add)) ∷ number_1 ∷ []) lines
assignments = refl

lines_of_assignments : map (λ n. events_in (walk (assigned n))) lines ≡ map (λ n. wanted n ∷ []) lines
lines_of_assignments = refl

cases : map (λ n. walk_heading (Case n (Number 1)) ∷ walk_heading (Default n) ∷ walk_statement (Break n) ∷ []) lines
    ≡ map (λ n. (Said (at_line n (token.Keyword keyword.Case)) ▸ Said number_1 ▸ Noted (CaseHere n 1)
    ▸ Said (at_line 0 token.Colon))
    ∷ (Said (at_line n (token.Keyword keyword.Default)) ▸ Noted (DefaultHere n) ▸ Said (at_line 0 token.Colon))
    ∷ (Said (at_line n (token.Keyword keyword.Break)) ▸ Noted (BreakHere n) ▸ Said (at_line 0 token.Semicolon)) ∷ [])
    lines
cases = refl

-- Each statement in each place of another one.
abbrev pub statements : List Stmt
statements =
    Headed (Label (word 4)) Empty ∷ Compound Nothing ∷ If one Empty ∷ IfElse one Empty Empty ∷ While one Empty
    ∷ Switch one Nothing ∷ Goto one ∷ Break 5 ∷ Return ∷ ReturnValue one ∷ Evaluate one ∷ Empty ∷ []

abbrev said : Stmt → List Placed
said s = tokens_in (walk_statement s)

abbrev keyword_1 : Token → List Placed
keyword_1 t = at_line 0 t ∷ at_line 0 token.OpenParen ∷ number_1 ∷ at_line 0 token.CloseParen ∷ []

-- a statement after a label, in braces, and after if, else, while and switch
abbrev pub outer : List (Stmt → Stmt)
outer =
    Headed (Label (word 3)) ∷ (λ s. Compound (More (More Nothing s) Empty)) ∷ If one ∷ (λ s. IfElse one s Empty)
    ∷ IfElse one Empty ∷ While one ∷ (λ s. Switch one (More Nothing s)) ∷ []

spelled_within : map (λ s. map (λ f. said (f s)) outer) statements
    ≡ map (λ s. (named 3 ∷ at_line 0 token.Colon ∷ said s)
    ∷ (at_line 0 token.OpenBrace ∷ said s ++ at_line 0 token.Semicolon ∷ at_line 0 token.CloseBrace ∷ [])
    ∷ (keyword_1 (token.Keyword keyword.If) ++ said s)
    ∷ (keyword_1 (token.Keyword keyword.If) ++ said s
    ++ at_line 0 (token.Keyword keyword.Else) ∷ at_line 0 token.Semicolon ∷ [])
    ∷ (keyword_1 (token.Keyword keyword.If)
    ++ at_line 0 token.Semicolon ∷ at_line 0 (token.Keyword keyword.Else) ∷ said s)
    ∷ (keyword_1 (token.Keyword keyword.While) ++ said s)
    ∷ (at_line 0 (token.Keyword keyword.Switch) ∷ number_1 ∷ at_line 0 token.OpenBrace ∷ said s
    ++ at_line 0 token.CloseBrace ∷ [])
    ∷ []) statements
spelled_within = refl

abbrev seen : Stmt → List Event
seen s = events_in (walk_statement s)

events_within : map (λ s. map (λ f. seen (f s)) outer) statements
    ≡ map (λ s. (LabelHere (word 3) ∷ seen s) ∷ seen s ∷ seen s ∷ seen s ∷ seen s
    ∷ (LoopBegins ∷ seen s ++ LoopEnds ∷ []) ∷ (SwitchBegins ∷ seen s ++ SwitchEnds ∷ []) ∷ []) statements
events_within = refl

abbrev depth : Stmt → ℕ
depth s = levels_in (walk_statement s)

levels_within : map (λ s. map (λ f. depth (f s)) outer) statements
    ≡ map (λ s. depth s ∷ replicate 6 (suc (depth s))) statements
levels_within = refl

bodies : map (λ s. tokens_in (walk_function [] s)) statements
    ≡ map (λ s. at_line 0 token.OpenParen ∷ at_line 0 token.CloseParen ∷ said s) statements
bodies = refl

functions : map (λ s. spell_definition (Function (word 3) [] s)) statements
    ≡ map (λ s. named 3 ∷ at_line 0 token.OpenParen ∷ at_line 0 token.CloseParen ∷ said s) statements
functions = refl

events_of_bodies : map (λ s. events_in (walk_function [] s)) statements ≡ map seen statements
events_of_bodies = refl

-- what each is by itself
spelled : map said statements ≡ (named 4 ∷ at_line 0 token.Colon ∷ at_line 0 token.Semicolon ∷ [])
    ∷ (at_line 0 token.OpenBrace ∷ at_line 0 token.CloseBrace ∷ [])
    ∷ (keyword_1 (token.Keyword keyword.If) ++ at_line 0 token.Semicolon ∷ [])
    ∷ (keyword_1 (token.Keyword keyword.If)
    ++ at_line 0 token.Semicolon ∷ at_line 0 (token.Keyword keyword.Else) ∷ at_line 0 token.Semicolon ∷ [])
    ∷ (keyword_1 (token.Keyword keyword.While) ++ at_line 0 token.Semicolon ∷ [])
    ∷ (at_line 0 (token.Keyword keyword.Switch) ∷ number_1 ∷ at_line 0 token.OpenBrace ∷ at_line 0 token.CloseBrace
    ∷ [])
    ∷ (at_line 0 (token.Keyword keyword.Goto) ∷ number_1 ∷ at_line 0 token.Semicolon ∷ [])
    ∷ (at_line 5 (token.Keyword keyword.Break) ∷ at_line 0 token.Semicolon ∷ [])
    ∷ (at_line 0 (token.Keyword keyword.Return) ∷ at_line 0 token.Semicolon ∷ [])
    ∷ (keyword_1 (token.Keyword keyword.Return) ++ at_line 0 token.Semicolon ∷ [])
    ∷ (number_1 ∷ at_line 0 token.Semicolon ∷ []) ∷ (at_line 0 token.Semicolon ∷ []) ∷ []
spelled = refl
