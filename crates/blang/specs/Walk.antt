-- Promise: each construct once, from left to right, and four things that are found there: tokens, strings, events of
-- the scan, levels of nesting.
use Rattle.std.specs.Prelude.{List, [], ◌∷◌, ◌++◌, ℕ, suc, max, Bool, true, false, Option, Some, None}
use Rattle.blang.specs.declared.token.Token.{Token}
use Rattle.blang.specs.declared.token.Placed.{Placed}
use Rattle.blang.specs.Cut.{placed, string_token}
use Rattle.blang.specs.declared.token.Keyword.TheVariants as keyword
use Rattle.blang.specs.declared.token.Token.TheVariants as token
use Rattle.blang.specs.Trees.{mark, keyword_mark, Identifier, constant_value, Expr, Arguments, PrefixOp, Negate, Not}
use Rattle.blang.specs.Trees.{Indirection, Address, PreIncrement, PreDecrement, Named, Literal, Text, Grouped, Indexed}
use Rattle.blang.specs.Trees.{Called, Postfixed, Prefixed, Binary, Conditional, Assigned, No_arguments, Another}
use Rattle.blang.specs.Trees.{name_token, constant_token, prefix_token, postfix_token, Declared, Heading, Auto, Extrn}
use Rattle.blang.specs.Trees.{Label, Case, Default, Stmt, Headed, Compound, If, IfElse, While, Switch, Goto, Break}
use Rattle.blang.specs.Trees.{Return, ReturnValue, Evaluate, Empty, Stmts, Nothing, More, Ival, Ival_constant}
use Rattle.blang.specs.Trees.{Ival_text, Ival_name, Definition, Simple, Vector, Function}

-- a string and its offset in the string words of its definition
pub record TextAt : Type 0 where
  pub bytes : List ℕ
  pub offset : ℕ

-- What a scan looks at, in source order. Loops and switches only say where they begin and end.
pub data Event : Type 0 where
  -- a parameter or a name in auto, and the constant of its vector
  AutoHere : (w : Identifier) → (size : Option ℕ) → Event
  -- a name in extrn
  ExtrnHere : (w : Identifier) → Event
  -- a name in an expression, and whether it is called
  Mention : (called : Bool) → (w : Identifier) → Event
  LabelHere : (w : Identifier) → Event
  CaseHere : (line value : ℕ) → Event
  DefaultHere : (line : ℕ) → Event
  BreakHere : (line : ℕ) → Event
  -- the operator on this line wants an lvalue
  LvalueWanted : (line : ℕ) → (e : Expr) → Event
  LoopBegins : Event
  LoopEnds : Event
  SwitchBegins : Event
  SwitchEnds : Event

infixr 60 ◌▸◌
-- what a walk over a construct meets
pub data Walk : Type 0 where
  NothingHere : Walk
  -- a token
  Said : (p : Placed) → Walk
  -- a string
  TextHere : (t : TextAt) → Walk
  -- no token, but what a scan looks at here
  Noted : (e : Event) → Walk
  -- a token that opens a level, what is in that level, and what a scan looks at after it
  Level : (opening : Placed) → (inside : Walk) → (after : List Event) → Walk
  -- v, and then w
  ◌▸◌ : (v w : Walk) → Walk

-- its tokens, as a tree keeps them: a line that it doesn't keep is 0
abbrev pub tokens_in : Walk → List Placed
tokens_in (Said p) = p ∷ []
tokens_in (TextHere t) = mark (string_token t.bytes) ∷ []
tokens_in (Level opening inside after) = opening ∷ tokens_in inside
tokens_in (v ▸ w) = tokens_in v ++ tokens_in w
tokens_in _ = []

-- its strings
abbrev pub texts_in : Walk → List TextAt
texts_in (TextHere t) = t ∷ []
texts_in (Level opening inside after) = texts_in inside
texts_in (v ▸ w) = texts_in v ++ texts_in w
texts_in _ = []

-- its events
abbrev pub events_in : Walk → List Event
events_in (Noted e) = e ∷ []
events_in (Level opening inside after) = events_in inside ++ after
events_in (v ▸ w) = events_in v ++ events_in w
events_in _ = []

-- the most levels that are one within another
abbrev pub levels_in : Walk → ℕ
levels_in (Level opening inside after) = suc (levels_in inside)
levels_in (v ▸ w) = max (levels_in v) (levels_in w)
levels_in _ = 0

-- a token whose line the tree doesn't keep
abbrev pub plain : Token → Walk
plain t = Said (mark t)

-- a token whose line it keeps
abbrev pub lined : Token → ℕ → Walk
lined t line = Said (placed t line)

-- a name, and what a scan looks at there
abbrev pub name : Identifier → Event → Walk
name w event = Said (name_token w) ▸ Noted event

abbrev pub text : List ℕ → (offset : ℕ) → Walk
text bytes offset = TextHere (record { bytes = bytes; offset = offset })

-- a token that opens a level, and what is in it; a scan looks at nothing after it
abbrev pub level : Token → Walk → Walk
level t inside = Level (mark t) inside []

-- each of them after a comma
abbrev pub walk_commas : {A : Type 0} → (A → Walk) → List A → Walk
walk_commas say [] = NothingHere
walk_commas say (x ∷ xs) = plain token.Comma ▸ say x ▸ walk_commas say xs

-- with commas between them
abbrev pub walk_list : {A : Type 0} → (A → Walk) → List A → Walk
walk_list say [] = NothingHere
walk_list say (x ∷ xs) = say x ▸ walk_commas say xs

-- what is before the ( of a call: a name by itself is mentioned as called, anything else is walked as ever
abbrev pub callee : Expr → (as_ever : Walk) → Walk
callee (Named w) as_ever = name w (Mention true w)
callee _ as_ever = as_ever

-- &, ++ and -- want an lvalue; -, ! and * don't
abbrev pub prefix_events : PrefixOp → ℕ → Expr → List Event
prefix_events Negate line e = []
prefix_events Not line e = []
prefix_events Indirection line e = []
prefix_events Address line e = LvalueWanted line e ∷ []
prefix_events PreIncrement line e = LvalueWanted line e ∷ []
prefix_events PreDecrement line e = LvalueWanted line e ∷ []

-- what stands between these arguments and a further one
abbrev pub comma_before_next : Arguments → Walk
comma_before_next No_arguments = NothingHere
comma_before_next (Another before e) = plain token.Comma

abbrev mutual
  -- an expression from left to right
  pub walk : Expr → Walk
  walk (Named w) = name w (Mention false w)
  walk (Literal c) = plain (constant_token c)
  walk (Text bytes offset) = text bytes offset
  walk (Grouped e) = level token.OpenParen (walk e) ▸ plain token.CloseParen
  walk (Indexed e f) = walk e ▸ level token.OpenBracket (walk f) ▸ plain token.CloseBracket
  walk (Called e args) = callee e (walk e) ▸ level token.OpenParen (walk_arguments args) ▸ plain token.CloseParen
  walk (Postfixed op line e) = walk e ▸ Noted (LvalueWanted line e) ▸ lined (postfix_token op) line
  walk (Prefixed op line e) = Level (placed (prefix_token op) line) (walk e) (prefix_events op line e)
  walk (Binary op line e f) = walk e ▸ lined (token.Operator op) line ▸ walk f
  walk (Conditional e f g) = walk e ▸ level token.Question (walk f ▸ plain token.Colon ▸ walk g)
  walk (Assigned op line e f) = walk e ▸ Noted (LvalueWanted line e) ▸ Level (placed (token.Assign op) line) (walk f) []

  pub walk_arguments : Arguments → Walk
  walk_arguments No_arguments = NothingHere
  walk_arguments (Another before e) = walk_arguments before ▸ comma_before_next before ▸ walk e

abbrev pub walk_size : Option ℕ → Walk
walk_size None = NothingHere
walk_size (Some n) = plain (token.Number n)

abbrev pub walk_declared : Declared → Walk
walk_declared d = name d.word (AutoHere d.word d.size) ▸ walk_size d.size

abbrev pub walk_import : Identifier → Walk
walk_import w = name w (ExtrnHere w)

abbrev pub walk_heading : Heading → Walk
walk_heading (Auto declared) =
    plain (token.Keyword keyword.Auto) ▸ walk_list walk_declared declared ▸ plain token.Semicolon
walk_heading (Extrn names) = plain (token.Keyword keyword.Extrn) ▸ walk_list walk_import names ▸ plain token.Semicolon
walk_heading (Label w) = name w (LabelHere w) ▸ plain token.Colon
walk_heading (Case line c) =
    lined (token.Keyword keyword.Case) line ▸ plain (constant_token c) ▸ Noted (CaseHere line (constant_value c))
    ▸ plain token.Colon
-- edition 2 alone
walk_heading (Default line) =
    lined (token.Keyword keyword.Default) line ▸ Noted (DefaultHere line) ▸ plain token.Colon

-- an rvalue in the parentheses of an if, a while or a return, which open no level of their own
abbrev pub walk_parenthesized : Expr → Walk
walk_parenthesized e = plain token.OpenParen ▸ walk e ▸ plain token.CloseParen

abbrev mutual
  -- a statement
  pub walk_statement : Stmt → Walk
  walk_statement (Headed h s) = walk_heading h ▸ walk_statement s
  walk_statement (Compound body) = level token.OpenBrace (walk_body body) ▸ plain token.CloseBrace
  walk_statement (If e s) = level (token.Keyword keyword.If) (walk_parenthesized e ▸ walk_statement s)
  walk_statement (IfElse e s other) =
      level (token.Keyword keyword.If)
      (walk_parenthesized e ▸ walk_statement s ▸ plain (token.Keyword keyword.Else) ▸ walk_statement other)
  walk_statement (While e s) =
      Level (keyword_mark keyword.While) (walk_parenthesized e ▸ Noted LoopBegins ▸ walk_statement s)
      (LoopEnds ∷ [])
  walk_statement (Switch e body) =
      Level (keyword_mark keyword.Switch)
      (walk e ▸ plain token.OpenBrace ▸ Noted SwitchBegins ▸ walk_body body ▸ plain token.CloseBrace) (SwitchEnds ∷ [])
  walk_statement (Goto e) = plain (token.Keyword keyword.Goto) ▸ walk e ▸ plain token.Semicolon
  -- edition 2 alone
  walk_statement (Break line) =
      lined (token.Keyword keyword.Break) line ▸ Noted (BreakHere line) ▸ plain token.Semicolon
  walk_statement Return = plain (token.Keyword keyword.Return) ▸ plain token.Semicolon
  walk_statement (ReturnValue e) = plain (token.Keyword keyword.Return) ▸ walk_parenthesized e ▸ plain token.Semicolon
  walk_statement (Evaluate e) = walk e ▸ plain token.Semicolon
  walk_statement Empty = plain token.Semicolon

  pub walk_body : Stmts → Walk
  walk_body Nothing = NothingHere
  walk_body (More before s) = walk_body before ▸ walk_statement s

abbrev pub walk_value : Ival → Walk
walk_value (Ival_constant c) = plain (constant_token c)
walk_value (Ival_text bytes offset) = text bytes offset
walk_value (Ival_name w) = Said (name_token w)

-- initial values and their ;
abbrev pub walk_values : List Ival → Walk
walk_values values = walk_list walk_value values ▸ plain token.Semicolon

abbrev pub walk_parameter : Identifier → Walk
walk_parameter w = name w (AutoHere w None)

-- a function without its name
abbrev pub walk_function : List Identifier → Stmt → Walk
walk_function parameters body =
    plain token.OpenParen ▸ walk_list walk_parameter parameters ▸ plain token.CloseParen ▸ walk_statement body

-- Its own name is no event, nor is a name that is an initial value.
abbrev pub walk_definition : Definition → Walk
walk_definition (Simple w values) = Said (name_token w) ▸ walk_values values
walk_definition (Vector w size values) =
    Said (name_token w) ▸ plain token.OpenBracket ▸ walk_size size ▸ plain token.CloseBracket ▸ walk_values values
walk_definition (Function w parameters body) = Said (name_token w) ▸ walk_function parameters body

abbrev pub spell_definition : Definition → List Placed
spell_definition d = tokens_in (walk_definition d)

-- the tokens of definitions, one after another
abbrev pub spell_all : List Definition → List Placed
spell_all [] = []
spell_all (d ∷ ds) = spell_definition d ++ spell_all ds
