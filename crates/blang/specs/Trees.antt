-- Promise: trees of expressions, statements and definitions, and the tokens that stand alone in them.
use Rattle.std.specs.Prelude.{Bool, true, false, List, map, if◌then◌else◌, ℕ, Option}
use Rattle.bword.specs.declared.operators.BinOp.{BinOp}
use Rattle.bword.specs.declared.operators.BinOp.TheVariants as op
use Rattle.blang.specs.declared.token.Keyword.{Keyword}
use Rattle.blang.specs.declared.token.Token.{Token}
use Rattle.blang.specs.declared.token.Placed.{Placed}
use Rattle.blang.specs.Cut.{placed}
use Rattle.blang.specs.declared.token.Keyword.TheVariants as keyword
use Rattle.blang.specs.declared.token.Token.TheVariants as token

abbrev pub keeps_keyword : Keyword → Bool
keeps_keyword keyword.Case = true
keeps_keyword keyword.Break = true
keeps_keyword keyword.Default = true
keeps_keyword _ = false

-- whether a tree keeps the line of the token
abbrev pub keeps_line : Token → Bool
keeps_line (token.Name text) = true
keeps_line (token.Keyword k) = keeps_keyword k
keeps_line (token.Operator op) = true
keeps_line (token.Assign op) = true
keeps_line token.Not = true
keeps_line token.Increment = true
keeps_line token.Decrement = true
keeps_line _ = false

-- a token without its line
abbrev pub mark : Token → Placed
mark t = placed t 0

-- a token with what a tree keeps of it
abbrev pub kept : Placed → Placed
kept p = if keeps_line p.token then p else mark p.token

abbrev pub kept_tokens : List Placed → List Placed
kept_tokens tokens = map kept tokens

-- a token alone
abbrev pub bare : Placed → Token
bare p = p.token

-- a name and its line
pub record Identifier : Type 0 where
  pub text : List ℕ
  pub line : ℕ

pub data Constant : Type 0 where
  Number : (n : ℕ) → Constant
  Character : (n : ℕ) → Constant

abbrev pub constant_value : Constant → ℕ
constant_value (Number n) = n
constant_value (Character n) = n

pub data PrefixOp : Type 0 where
  Negate : PrefixOp
  Not : PrefixOp
  Indirection : PrefixOp
  Address : PrefixOp
  PreIncrement : PrefixOp
  PreDecrement : PrefixOp

pub data PostfixOp : Type 0 where
  PostIncrement : PostfixOp
  PostDecrement : PostfixOp

-- An operator has its line. A string has its offset in the string words of its definition.
mutual
  pub data Expr : Type 0 where
    Named : (w : Identifier) → Expr
    Literal : (c : Constant) → Expr
    Text : (bytes : List ℕ) → (offset : ℕ) → Expr
    Grouped : (e : Expr) → Expr
    Indexed : (e f : Expr) → Expr
    Called : (e : Expr) → (args : Arguments) → Expr
    Postfixed : (op : PostfixOp) → (line : ℕ) → (e : Expr) → Expr
    Prefixed : (op : PrefixOp) → (line : ℕ) → (e : Expr) → Expr
    Binary : (op : BinOp) → (line : ℕ) → (e f : Expr) → Expr
    Conditional : (e f g : Expr) → Expr
    Assigned : (op : Option BinOp) → (line : ℕ) → (e f : Expr) → Expr

  -- the last one outermost
  pub data Arguments : Type 0 where
    No_arguments : Arguments
    Another : (before : Arguments) → (e : Expr) → Arguments

abbrev pub name_token : Identifier → Placed
name_token w = placed (token.Name w.text) w.line

abbrev pub constant_token : Constant → Token
constant_token (Number n) = token.Number n
constant_token (Character n) = token.Character n

abbrev pub prefix_token : PrefixOp → Token
prefix_token Negate = token.Operator op.Sub
prefix_token Not = token.Not
prefix_token Indirection = token.Operator op.Mul
prefix_token Address = token.Operator op.And
prefix_token PreIncrement = token.Increment
prefix_token PreDecrement = token.Decrement

abbrev pub postfix_token : PostfixOp → Token
postfix_token PostIncrement = token.Increment
postfix_token PostDecrement = token.Decrement

-- an automatic name, and the constant of its vector
pub record Declared : Type 0 where
  pub word : Identifier
  pub size : Option ℕ

-- what may come before a statement
pub data Heading : Type 0 where
  Auto : (declared : List Declared) → Heading
  Extrn : (names : List Identifier) → Heading
  Label : (w : Identifier) → Heading
  Case : (line : ℕ) → (c : Constant) → Heading
  Default : (line : ℕ) → Heading

mutual
  pub data Stmt : Type 0 where
    Headed : (h : Heading) → (s : Stmt) → Stmt
    Compound : (body : Stmts) → Stmt
    If : (e : Expr) → (s : Stmt) → Stmt
    IfElse : (e : Expr) → (s other : Stmt) → Stmt
    While : (e : Expr) → (s : Stmt) → Stmt
    Switch : (e : Expr) → (body : Stmts) → Stmt
    Goto : (e : Expr) → Stmt
    Break : (line : ℕ) → Stmt
    Return : Stmt
    ReturnValue : (e : Expr) → Stmt
    Evaluate : (e : Expr) → Stmt
    Empty : Stmt

  -- the last one outermost
  pub data Stmts : Type 0 where
    Nothing : Stmts
    More : (before : Stmts) → (s : Stmt) → Stmts

abbrev pub keyword_mark : Keyword → Placed
keyword_mark k = mark (token.Keyword k)

-- an initial value
pub data Ival : Type 0 where
  Ival_constant : (c : Constant) → Ival
  Ival_text : (bytes : List ℕ) → (offset : ℕ) → Ival
  Ival_name : (w : Identifier) → Ival

pub data Definition : Type 0 where
  Simple : (w : Identifier) → (values : List Ival) → Definition
  Vector : (w : Identifier) → (size : Option ℕ) → (values : List Ival) → Definition
  Function : (w : Identifier) → (parameters : List Identifier) → (body : Stmt) → Definition
