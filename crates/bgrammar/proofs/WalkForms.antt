-- A law of all walks, from what it says of their parts: what joining and opening keep, each walk of a tree keeps.
use Rattle.std.specs.Prelude.{true, false, List, [], ◌∷◌, ℕ, Option, Some, None}
use Rattle.blang.specs.declared.token.Keyword.{Keyword}
use Rattle.blang.specs.declared.token.Token.{Token}
use Rattle.blang.specs.declared.token.Placed.{Placed}
use Rattle.blang.specs.declared.token.Keyword.TheVariants as keyword
use Rattle.blang.specs.declared.token.Token.TheVariants as token
use Rattle.blang.specs.Trees.{Identifier, Constant, Number, Character, Expr, Arguments, PrefixOp, Negate, Not, Indirection, PostfixOp, PostIncrement, PostDecrement, Named, Literal, Text, Grouped, Indexed, Called, Postfixed, Prefixed, Binary, Conditional, Assigned, No_arguments, Another, name_token, constant_token, prefix_token, postfix_token, Declared, Heading, Auto, Extrn, Label, Case, Default, Stmt, Headed, Compound, If, IfElse, While, Switch, Goto, Break, Return, ReturnValue, Evaluate, Empty, Stmts, Nothing, More, Ival, Ival_constant, Ival_text, Ival_name, Definition, Simple, Vector, Function}
use Rattle.blang.specs.Walk.{TextAt, Event, AutoHere, ExtrnHere, Mention, LabelHere, Walk, NothingHere, Said, TextHere, Noted, Level, ◌▸◌, plain, name, walk_commas, walk_list, callee, prefix_events, comma_before_next, walk, walk_arguments, walk_size, walk_declared, walk_import, walk_heading, walk_parenthesized, walk_statement, walk_body, walk_value, walk_values, walk_parameter, walk_definition}

-- a token that trees have, and no keyword but these
abbrev pub IsSaid : (Keyword → Type 0) → Token → Type 0
IsSaid Word (token.Keyword k) = Word k
IsSaid Word (token.Bad letters) = ⊥
IsSaid Word token.End = ⊥
IsSaid Word _ = Unit {0}

abbrev pub NoLabel : Event → Type 0
NoLabel (LabelHere w) = ⊥
NoLabel _ = Unit {0}

abbrev pub NoLabels : List Event → Type 0
NoLabels [] = Unit {0}
NoLabels (e ∷ es) = NoLabel e × NoLabels es

-- a law of walks with these keywords and without labels
pub record KeptByWalks (Word : Keyword → Type 0) (P : Walk → Type 0) : Type 0 where
  pub none : P NothingHere
  pub said : (p : Placed) → IsSaid Word p.token → P (Said p)
  pub text : (t : TextAt) → P (TextHere t)
  pub noted : (e : Event) → NoLabel e → P (Noted e)
  pub opens : {w : Walk} (p : Placed) (end : List Event) → IsSaid Word p.token → NoLabels end → P w → P (Level p w end)
  pub joins : {v w : Walk} → P v → P w → P (v ▸ w)

constant_said : (Word : Keyword → Type 0) (c : Constant) → IsSaid Word (constant_token c)
constant_said Word (Number n) = tt
constant_said Word (Character n) = tt

prefix_said : (Word : Keyword → Type 0) (op : PrefixOp) → IsSaid Word (prefix_token op)
prefix_said Word Negate = tt
prefix_said Word _ = tt

postfix_said : (Word : Keyword → Type 0) (op : PostfixOp) → IsSaid Word (postfix_token op)
postfix_said Word PostIncrement = tt
postfix_said Word PostDecrement = tt

prefix_quiet : (op : PrefixOp) (line : ℕ) (e : Expr) → NoLabels (prefix_events op line e)
prefix_quiet Negate line e = tt
prefix_quiet Not line e = tt
prefix_quiet Indirection line e = tt
prefix_quiet _ line e = (tt, tt)

module _ {Word : Keyword → Type 0} {P : Walk → Type 0} (k : KeptByWalks Word P) where
  named : (w : Identifier) (e : Event) → NoLabel e → P (name w e)
  named w e q = k.joins (k.said (name_token w) tt) (k.noted e q)

  pub constant_kept : (c : Constant) → P (plain (constant_token c))
  constant_kept c = k.said _ (constant_said Word c)

  called : (e : Expr) → P (walk e) → P (callee e (walk e))
  called (Named w) h = named w (Mention true w) tt
  called _ h = h

  comma : (args : Arguments) → P (comma_before_next args)
  comma No_arguments = k.none
  comma (Another before e) = k.said _ tt

  mutual
    pub expression_kept : (e : Expr) → P (walk e)
    expression_kept (Named w) = named w (Mention false w) tt
    expression_kept (Literal c) = constant_kept c
    expression_kept (Text bytes offset) = k.text _
    expression_kept (Grouped e) = k.joins (k.opens _ [] tt tt (expression_kept e)) (k.said _ tt)
    expression_kept (Indexed e f) = k.joins (expression_kept e) (k.joins (k.opens _ [] tt tt (expression_kept f)) (k.said _ tt))
    expression_kept (Called e args) = k.joins (called e (expression_kept e)) (k.joins (k.opens _ [] tt tt (arguments_kept args)) (k.said _ tt))
    expression_kept (Postfixed op line e) = k.joins (expression_kept e) (k.joins (k.noted _ tt) (k.said _ (postfix_said Word op)))
    expression_kept (Prefixed op line e) = k.opens _ _ (prefix_said Word op) (prefix_quiet op line e) (expression_kept e)
    expression_kept (Binary op line e f) = k.joins (expression_kept e) (k.joins (k.said _ tt) (expression_kept f))
    expression_kept (Conditional e f g) = k.joins (expression_kept e) (k.opens _ [] tt tt (k.joins (expression_kept f) (k.joins (k.said _ tt) (expression_kept g))))
    expression_kept (Assigned op line e f) = k.joins (expression_kept e) (k.joins (k.noted _ tt) (k.opens _ [] tt tt (expression_kept f)))

    arguments_kept : (args : Arguments) → P (walk_arguments args)
    arguments_kept No_arguments = k.none
    arguments_kept (Another before e) = k.joins (arguments_kept before) (k.joins (comma before) (expression_kept e))

  module _ {A : Type 0} (say : A → Walk) (each : (x : A) → P (say x)) where
    commas_kept : (xs : List A) → P (walk_commas say xs)
    commas_kept [] = k.none
    commas_kept (x ∷ xs) = k.joins (k.said _ tt) (k.joins (each x) (commas_kept xs))

    pub list_kept : (xs : List A) → P (walk_list say xs)
    list_kept [] = k.none
    list_kept (x ∷ xs) = k.joins (each x) (commas_kept xs)

  pub size_kept : (size : Option ℕ) → P (walk_size size)
  size_kept None = k.none
  size_kept (Some n) = k.said _ tt

  pub declared_kept : (d : Declared) → P (walk_declared d)
  declared_kept d = k.joins (named d.word (AutoHere d.word d.size) tt) (size_kept d.size)

  pub imports_kept : (ws : List Identifier) → P (walk_list walk_import ws)
  imports_kept ws = list_kept walk_import (λ w. named w (ExtrnHere w) tt) ws

  pub parameters_kept : (ws : List Identifier) → P (walk_list walk_parameter ws)
  parameters_kept ws = list_kept walk_parameter (λ w. named w (AutoHere w None) tt) ws

  pub condition_kept : (e : Expr) → P (walk_parenthesized e)
  condition_kept e = k.joins (k.said _ tt) (k.joins (expression_kept e) (k.said _ tt))

  value_kept : (v : Ival) → P (walk_value v)
  value_kept (Ival_constant c) = constant_kept c
  value_kept (Ival_text bytes offset) = k.text _
  value_kept (Ival_name w) = k.said _ tt

  pub values_kept : (values : List Ival) → P (walk_values values)
  values_kept values = k.joins (list_kept walk_value value_kept values) (k.said _ tt)

  -- where all keywords are said, and labels too
  module _ (word : (x : Keyword) → Word x) (label : (w : Identifier) → P (Noted (LabelHere w))) where
    heading_kept : (h : Heading) → P (walk_heading h)
    heading_kept (Auto declared) = k.joins (k.said _ (word keyword.Auto)) (k.joins (list_kept walk_declared declared_kept declared) (k.said _ tt))
    heading_kept (Extrn names) = k.joins (k.said _ (word keyword.Extrn)) (k.joins (imports_kept names) (k.said _ tt))
    heading_kept (Label w) = k.joins (k.joins (k.said _ tt) (label w)) (k.said _ tt)
    heading_kept (Case line c) = k.joins (k.said _ (word keyword.Case)) (k.joins (constant_kept c) (k.joins (k.noted _ tt) (k.said _ tt)))
    heading_kept (Default line) = k.joins (k.said _ (word keyword.Default)) (k.joins (k.noted _ tt) (k.said _ tt))

    mutual
      statement_kept : (s : Stmt) → P (walk_statement s)
      statement_kept (Headed h s) = k.joins (heading_kept h) (statement_kept s)
      statement_kept (Compound body) = k.joins (k.opens _ [] tt tt (body_kept body)) (k.said _ tt)
      statement_kept (If e s) = k.opens _ [] (word keyword.If) tt (k.joins (condition_kept e) (statement_kept s))
      statement_kept (IfElse e s other) = k.opens _ [] (word keyword.If) tt (k.joins (condition_kept e) (k.joins (statement_kept s) (k.joins (k.said _ (word keyword.Else)) (statement_kept other))))
      statement_kept (While e s) = k.opens _ _ (word keyword.While) (tt, tt) (k.joins (condition_kept e) (k.joins (k.noted _ tt) (statement_kept s)))
      statement_kept (Switch e body) = k.opens _ _ (word keyword.Switch) (tt, tt) (k.joins (expression_kept e) (k.joins (k.said _ tt) (k.joins (k.noted _ tt) (k.joins (body_kept body) (k.said _ tt)))))
      statement_kept (Goto e) = k.joins (k.said _ (word keyword.Goto)) (k.joins (expression_kept e) (k.said _ tt))
      statement_kept (Break line) = k.joins (k.said _ (word keyword.Break)) (k.joins (k.noted _ tt) (k.said _ tt))
      statement_kept Return = k.joins (k.said _ (word keyword.Return)) (k.said _ tt)
      statement_kept (ReturnValue e) = k.joins (k.said _ (word keyword.Return)) (k.joins (condition_kept e) (k.said _ tt))
      statement_kept (Evaluate e) = k.joins (expression_kept e) (k.said _ tt)
      statement_kept Empty = k.said _ tt

      body_kept : (ss : Stmts) → P (walk_body ss)
      body_kept Nothing = k.none
      body_kept (More before s) = k.joins (body_kept before) (statement_kept s)

    pub definition_kept : (d : Definition) → P (walk_definition d)
    definition_kept (Simple w values) = k.joins (k.said _ tt) (values_kept values)
    definition_kept (Vector w size values) = k.joins (k.said _ tt) (k.joins (k.said _ tt) (k.joins (size_kept size) (k.joins (k.said _ tt) (values_kept values))))
    definition_kept (Function w parameters body) =
        k.joins (k.said _ tt) (k.joins (k.said _ tt) (k.joins (parameters_kept parameters) (k.joins (k.said _ tt) (statement_kept body))))
