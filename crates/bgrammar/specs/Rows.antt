-- Closed facts: hard places of the grammar, each with what is read there.
use Rattle.std.specs.Prelude.{◌≡◌, ℕ, zero, suc, List, [], ◌∷◌, ◌++◌, Some, None, replicate}
use Rattle.bword.specs.declared.operators.BinOp.{BinOp}
use Rattle.bword.specs.declared.operators.BinOp.TheVariants as op
use Rattle.blang.specs.declared.token.Token.TheVariants as token
use Rattle.blang.specs.declared.token.Keyword.TheVariants as keyword
use Rattle.blang.specs.declared.token.Placed.{Placed}
use Rattle.blang.specs.Trees.{mark, Identifier, Number, Expr, Named, Literal, Text, Grouped, Indexed, Called, Postfixed}
use Rattle.blang.specs.Trees.{Prefixed, Binary, Conditional, Assigned, No_arguments, Another, Negate, Indirection}
use Rattle.blang.specs.Trees.{PostIncrement, name_token, Stmt, Headed, Label, Case, Auto, Extrn, If, IfElse, While}
use Rattle.blang.specs.Trees.{Switch, Goto, ReturnValue, Evaluate, Empty, Nothing, More, keyword_mark, Definition}
use Rattle.blang.specs.Trees.{Vector, Function, Ival_text, Ival_name}
use Rattle.blang.specs.Cut.{placed, string_token}
use Rattle.bgrammar.specs.Reading.{Got, Stop, Reader}
use Rattle.bgrammar.specs.ExpressionReader.{Rvalue, reader}
use Rattle.bgrammar.specs.StatementReader.{statement}
use Rattle.blang.specs.declared.limits.TheConstants.{MAX_NESTING}
use Rattle.bgrammar.specs.DefinitionReader.{definition}

-- names of one letter on line 1, and the tokens that they are
abbrev pub word : ℕ → Identifier
word letter = record { text = letter ∷ []; line = 1 }

abbrev pub var : ℕ → Expr
var letter = Named (word letter)

abbrev pub name : ℕ → Placed
name letter = name_token (word letter)

abbrev pub operator : BinOp → Placed
operator op = placed (token.Operator op) 1

abbrev pub assign : Placed
assign = placed (token.Assign None) 1

abbrev pub binary : BinOp → Expr → Expr → Expr
binary op e f = Binary op 1 e f

abbrev pub five : Placed
five = mark (token.Number 5)

abbrev pub expression : Reader Expr
expression = reader MAX_NESTING Rvalue 0

-- `f()`, and what stands after it
abbrev pub function : List Placed → List Placed
function ts = name 102 ∷ mark token.OpenParen ∷ mark token.CloseParen ∷ ts

abbrev pub body : Stmt → Definition
body s = Function (word 102) [] s

abbrev pub string : List ℕ → Placed
string bytes = mark (string_token bytes)

pub record ExpressionRows : Type 0 where
  -- `a+b=c` stops at `=`
  pub a_sum_is_not_assigned : expression (name 97 ∷ operator op.Add ∷ name 98 ∷ assign ∷ name 99 ∷ [])
      ≡ Got (binary op.Add (var 97) (var 98)) (assign ∷ name 99 ∷ [])
  -- `a?b:c=a` stops at `=`
  pub a_conditional_is_not_assigned : expression
      (name 97 ∷ mark token.Question ∷ name 98 ∷ mark token.Colon ∷ name 99 ∷ assign ∷ name 97 ∷ [])
      ≡ Got (Conditional (var 97) (var 98) (var 99)) (assign ∷ name 97 ∷ [])
  -- `-a=b`
  pub a_negation_is_assigned : expression (operator op.Sub ∷ name 97 ∷ assign ∷ name 98 ∷ [])
      ≡ Got (Assigned None 1 (Prefixed Negate 1 (var 97)) (var 98)) []
  -- `a=b=c`
  pub assignments_bind_to_the_right : expression (name 97 ∷ assign ∷ name 98 ∷ assign ∷ name 99 ∷ [])
      ≡ Got (Assigned None 1 (var 97) (Assigned None 1 (var 98) (var 99))) []
  -- `a-b-c`
  pub operators_bind_to_the_left : expression (name 97 ∷ operator op.Sub ∷ name 98 ∷ operator op.Sub ∷ name 99 ∷ [])
      ≡ Got (binary op.Sub (binary op.Sub (var 97) (var 98)) (var 99)) []
  -- `a?b=a:c?d:e`
  pub conditionals_bind_to_the_right : expression
      (name 97 ∷ mark token.Question ∷ name 98 ∷ assign ∷ name 97 ∷ mark token.Colon ∷ name 99 ∷ mark token.Question
      ∷ name 100 ∷ mark token.Colon ∷ name 101 ∷ [])
      ≡ Got (Conditional (var 97) (Assigned None 1 (var 98) (var 97)) (Conditional (var 99) (var 100) (var 101))) []
  -- `a|b&c==d<e<<f+g*h`
  pub looser_first : expression
      (name 97 ∷ operator op.Or ∷ name 98 ∷ operator op.And ∷ name 99 ∷ operator op.Eq ∷ name 100 ∷ operator op.Lt
      ∷ name 101 ∷ operator op.Shl ∷ name 102 ∷ operator op.Add ∷ name 103 ∷ operator op.Mul ∷ name 104 ∷ [])
      ≡ Got (binary op.Or (var 97)
      (binary op.And (var 98)
      (binary op.Eq (var 99)
      (binary op.Lt (var 100)
      (binary op.Shl (var 101) (binary op.Add (var 102) (binary op.Mul (var 103) (var 104)))))))) []
  -- `a/b-c>>d>=e!=f&g|h`
  pub tighter_first : expression
      (name 97 ∷ operator op.Div ∷ name 98 ∷ operator op.Sub ∷ name 99 ∷ operator op.Shr ∷ name 100 ∷ operator op.Ge
      ∷ name 101 ∷ operator op.Ne ∷ name 102 ∷ operator op.And ∷ name 103 ∷ operator op.Or ∷ name 104 ∷ [])
      ≡ Got (binary op.Or
      (binary op.And
      (binary op.Ne
      (binary op.Ge (binary op.Shr (binary op.Sub (binary op.Div (var 97) (var 98)) (var 99)) (var 100)) (var 101))
      (var 102)) (var 103)) (var 104)) []
  -- `a%b*c<=d>e`
  pub the_same_rank : expression
      (name 97 ∷ operator op.Rem ∷ name 98 ∷ operator op.Mul ∷ name 99 ∷ operator op.Le ∷ name 100 ∷ operator op.Gt
      ∷ name 101 ∷ [])
      ≡ Got (binary op.Gt (binary op.Le (binary op.Mul (binary op.Rem (var 97) (var 98)) (var 99)) (var 100))
      (var 101)) []
  -- `*a++[b](c,d)`
  pub suffixes_first : expression
      (operator op.Mul ∷ name 97 ∷ placed token.Increment 1 ∷ mark token.OpenBracket ∷ name 98 ∷ mark token.CloseBracket
      ∷ mark token.OpenParen ∷ name 99 ∷ mark token.Comma ∷ name 100 ∷ mark token.CloseParen ∷ [])
      ≡ Got (Prefixed Indirection 1
      (Called (Indexed (Postfixed PostIncrement 1 (var 97)) (var 98))
      (Another (Another No_arguments (var 99)) (var 100)))) []
  -- `"ab"["c"]("d")`: offsets count up
  pub offsets : expression
      (string (97 ∷ 98 ∷ []) ∷ mark token.OpenBracket ∷ string (99 ∷ []) ∷ mark token.CloseBracket ∷ mark
      token.OpenParen ∷ string (100 ∷ []) ∷ mark token.CloseParen ∷ [])
      ≡ Got (Called (Indexed (Text (97 ∷ 98 ∷ []) 0) (Text (99 ∷ []) 2)) (Another No_arguments (Text (100 ∷ []) 3))) []

-- what opens a level, where none is left
pub record LevelRows : Type 0 where
  pub parentheses : reader 0 Rvalue 0 (mark token.OpenParen ∷ five ∷ mark token.CloseParen ∷ [])
      ≡ Stop (mark token.OpenParen ∷ five ∷ mark token.CloseParen ∷ [])
  pub index : reader 0 Rvalue 0 (five ∷ mark token.OpenBracket ∷ five ∷ mark token.CloseBracket ∷ [])
      ≡ Stop (mark token.OpenBracket ∷ five ∷ mark token.CloseBracket ∷ [])
  pub no_arguments : reader 0 Rvalue 0 (five ∷ mark token.OpenParen ∷ mark token.CloseParen ∷ [])
      ≡ Stop (mark token.OpenParen ∷ mark token.CloseParen ∷ [])
  pub prefix : reader 0 Rvalue 0 (operator op.And ∷ name 97 ∷ []) ≡ Stop (operator op.And ∷ name 97 ∷ [])
  pub question : reader 0 Rvalue 0 (five ∷ mark token.Question ∷ five ∷ mark token.Colon ∷ five ∷ [])
      ≡ Stop (mark token.Question ∷ five ∷ mark token.Colon ∷ five ∷ [])
  pub assignment : reader 0 Rvalue 0 (five ∷ assign ∷ five ∷ []) ≡ Stop (assign ∷ five ∷ [])
  pub compound : statement 0 0 (mark token.OpenBrace ∷ mark token.CloseBrace ∷ [])
      ≡ Stop (mark token.OpenBrace ∷ mark token.CloseBrace ∷ [])
  pub if_statement : statement 0 0 (keyword_mark keyword.If ∷ []) ≡ Stop (keyword_mark keyword.If ∷ [])
  pub while_statement : statement 0 0 (keyword_mark keyword.While ∷ []) ≡ Stop (keyword_mark keyword.While ∷ [])
  pub switch_statement : statement 0 0 (keyword_mark keyword.Switch ∷ []) ≡ Stop (keyword_mark keyword.Switch ∷ [])
  -- `a-5++`, `goto 5;`, `return(5);` and `case 5: a: ;` open none
  pub operators : reader 0 Rvalue 0 (name 97 ∷ operator op.Sub ∷ five ∷ placed token.Increment 1 ∷ [])
      ≡ Got (binary op.Sub (var 97) (Postfixed PostIncrement 1 (Literal (Number 5)))) []
  pub goto : statement 0 0 (keyword_mark keyword.Goto ∷ five ∷ mark token.Semicolon ∷ [])
      ≡ Got (Goto (Literal (Number 5))) []
  pub return_value : statement 0 0
      (keyword_mark keyword.Return ∷ mark token.OpenParen ∷ five ∷ mark token.CloseParen ∷ mark token.Semicolon ∷ [])
      ≡ Got (ReturnValue (Literal (Number 5))) []
  pub labels : statement 0 0
      (placed (token.Keyword keyword.Case) 1 ∷ five ∷ mark token.Colon ∷ name 97 ∷ mark token.Colon ∷ mark
      token.Semicolon ∷ []) ≡ Got (Headed (Case 1 (Number 5)) (Headed (Label (word 97)) Empty)) []
  -- `switch` with its braces opens one, and so does `if` with its parentheses
  pub one_for_switch : statement 1 0
      (keyword_mark keyword.Switch ∷ five ∷ mark token.OpenBrace ∷ name 97 ∷ mark token.Semicolon ∷ mark
      token.CloseBrace ∷ []) ≡ Got (Switch (Literal (Number 5)) (More Nothing (Evaluate (var 97)))) []
  pub one_for_if : statement 1 0
      (keyword_mark keyword.If ∷ mark token.OpenParen ∷ five ∷ mark token.CloseParen ∷ name 97 ∷ mark token.Semicolon
      ∷ []) ≡ Got (If (Literal (Number 5)) (Evaluate (var 97))) []

abbrev pub open_parens : ℕ → List Placed → List Placed
open_parens n ts = replicate n (mark token.OpenParen) ++ ts

abbrev pub close_parens : ℕ → List Placed → List Placed
close_parens n ts = replicate n (mark token.CloseParen) ++ ts

abbrev pub grouped : ℕ → Expr → Expr
grouped zero e = e
grouped (suc n) e = Grouped (grouped n e)

pub record DefinitionRows : Type 0 where
  -- `f() if(5) ; else )` stops at `)`, and `f() if(5) ; 5` is the function and `5`
  pub else_goes_on : definition
      (function
      (keyword_mark keyword.If ∷ mark token.OpenParen ∷ five ∷ mark token.CloseParen ∷ mark token.Semicolon
      ∷ keyword_mark keyword.Else ∷ mark token.CloseParen ∷ [])) ≡ Stop (mark token.CloseParen ∷ [])
  pub no_else : definition
      (function
      (keyword_mark keyword.If ∷ mark token.OpenParen ∷ five ∷ mark token.CloseParen ∷ mark token.Semicolon ∷ five
      ∷ [])) ≡ Got (body (If (Literal (Number 5)) Empty)) (five ∷ [])
  -- `f() if(5) while(5) a: if(5) ; else ;`
  pub the_nearest_if : definition
      (function
      (keyword_mark keyword.If ∷ mark token.OpenParen ∷ five ∷ mark token.CloseParen ∷ keyword_mark keyword.While ∷ mark
      token.OpenParen ∷ five ∷ mark token.CloseParen ∷ name 97 ∷ mark token.Colon ∷ keyword_mark keyword.If ∷ mark
      token.OpenParen ∷ five ∷ mark token.CloseParen ∷ mark token.Semicolon ∷ keyword_mark keyword.Else ∷ mark
      token.Semicolon ∷ []))
      ≡ Got (body
      (If (Literal (Number 5))
      (While (Literal (Number 5)) (Headed (Label (word 97)) (IfElse (Literal (Number 5)) Empty Empty))))) []
  -- `f() auto a; }` stops at `}`
  pub a_declaration_is_followed : definition
      (function (keyword_mark keyword.Auto ∷ name 97 ∷ mark token.Semicolon ∷ mark token.CloseBrace ∷ []))
      ≡ Stop (mark token.CloseBrace ∷ [])
  -- `f() auto a, b 5; extrn c; a: ;`
  pub declarations : definition
      (function
      (keyword_mark keyword.Auto ∷ name 97 ∷ mark token.Comma ∷ name 98 ∷ five ∷ mark token.Semicolon ∷ keyword_mark
      keyword.Extrn ∷ name 99 ∷ mark token.Semicolon ∷ name 97 ∷ mark token.Colon ∷ mark token.Semicolon ∷ []))
      ≡ Got (body
      (Headed (Auto (record { word = word 97; size = None } ∷ record { word = word 98; size = Some 5 } ∷ []))
      (Headed (Extrn (word 99 ∷ [])) (Headed (Label (word 97)) Empty)))) []
  -- `f() a?b:c;`
  pub a_name_is_no_label : definition
      (function (name 97 ∷ mark token.Question ∷ name 98 ∷ mark token.Colon ∷ name 99 ∷ mark token.Semicolon ∷ []))
      ≡ Got (body (Evaluate (Conditional (var 97) (var 98) (var 99)))) []
  -- `f() return 5;` stops at `5`
  pub return_wants_parentheses : definition (function (keyword_mark keyword.Return ∷ five ∷ mark token.Semicolon ∷ []))
      ≡ Stop (five ∷ mark token.Semicolon ∷ [])
  -- `f() switch 5 ;` stops at `;`
  pub switch_wants_braces : definition (function (keyword_mark keyword.Switch ∷ five ∷ mark token.Semicolon ∷ []))
      ≡ Stop (mark token.Semicolon ∷ [])
  -- `f(a,) ;` stops at `)`
  pub no_last_comma : definition
      (name 102 ∷ mark token.OpenParen ∷ name 97 ∷ mark token.Comma ∷ mark token.CloseParen ∷ [])
      ≡ Stop (mark token.CloseParen ∷ [])
  -- `v[] "ab",a,"c";`: brackets without a number, and offsets
  pub initial_values : definition
      (name 118 ∷ mark token.OpenBracket ∷ mark token.CloseBracket ∷ string (97 ∷ 98 ∷ []) ∷ mark token.Comma ∷ name 97
      ∷ mark token.Comma ∷ string (99 ∷ []) ∷ mark token.Semicolon ∷ [])
      ≡ Got (Vector (word 118) None (Ival_text (97 ∷ 98 ∷ []) 0 ∷ Ival_name (word 97) ∷ Ival_text (99 ∷ []) 2 ∷ [])) []
  -- `n -5;` stops at `-`
  pub no_signs : definition (name 110 ∷ operator op.Sub ∷ five ∷ mark token.Semicolon ∷ [])
      ≡ Stop (operator op.Sub ∷ five ∷ mark token.Semicolon ∷ [])
  -- 200 parentheses, and 201
  pub deepest : definition (function (open_parens 200 (five ∷ close_parens 200 (mark token.Semicolon ∷ []))))
      ≡ Got (body (Evaluate (grouped 200 (Literal (Number 5))))) []
  pub too_deep : definition (function (open_parens 201 (five ∷ close_parens 201 (mark token.Semicolon ∷ []))))
      ≡ Stop (mark token.OpenParen ∷ five ∷ close_parens 201 (mark token.Semicolon ∷ []))
