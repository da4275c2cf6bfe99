-- Closed facts: what comes of some sources.
use Rattle.std.specs.Prelude.{ℕ, List, [], ◌∷◌, ◌++◌}
use Rattle.blang.specs.declared.code.Instr.{Instr}
use Rattle.blang.specs.declared.code.Instr.TheVariants as instr
use Rattle.blang.specs.declared.code.Definition.TheVariants as code
use Rattle.blang.specs.Text.{definition_text}
use Rattle.blang.specs.declared.token.Letters.TheVariants as letters
use Rattle.blang.specs.declared.token.Token.{Token}
use Rattle.blang.specs.declared.token.Token.TheVariants as token
use Rattle.blang.specs.declared.token.Keyword.TheVariants as keyword
use Rattle.blang.specs.declared.token.Placed.{Placed}
use Rattle.blang.specs.Trees.{mark, keyword_mark}
use Rattle.blang.specs.Cut.{placed}
use Rattle.bgrammar.specs.Rows.{name, assign, function}
use Rattle.bgrammar.specs.CodeRows.{number, semicolon, parenthesized, name_fault, lone_fault}
use Rattle.blang.specs.Compiles.{CompilesTo}

-- `f() if(1) ;`
abbrev pub open_function : List Placed
open_function = function (keyword_mark keyword.If ∷ (parenthesized (number 1 ∷ []) ++ semicolon ∷ []))

abbrev pub else_empty : List Placed
else_empty = keyword_mark keyword.Else ∷ semicolon ∷ []

-- a token on line 2, and the end of the source after it
abbrev pub last : Token → List Placed
last t = placed t 2 ∷ mark token.End ∷ []

-- the text of `f` with this code
abbrev pub text_of_f : List Instr → List ℕ
text_of_f instrs =
    definition_text
    (code.Function (record { name = 102 ∷ []; parameters = 0; frame = 0; targets = []; strings = []; code = instrs }))

pub record OutcomeRows : Type 0 where
  -- `a;` and on line 2 `a;`
  pub defined_twice : CompilesTo []
      ((name 97 ∷ semicolon ∷ []) ++ placed (token.Name (97 ∷ [])) 2 ∷ last token.Semicolon)
      (record {
        code = definition_text (code.Simple (record { name = 97 ∷ []; values = []; strings = [] }))
            ∷ [];
        stop = name_fault letters.Redeclared 97 2;
      })
  -- `f() if(1) ;` and on line 2 `5`
  pub after_a_function : CompilesTo [] (open_function ++ last (token.Number 5))
      (record {
        code = text_of_f (instr.Constant 1 ∷ instr.JumpIfZero 2 ∷ instr.Constant 0 ∷ instr.Return ∷ [])
            ∷ [];
        stop = lone_fault letters.Syntax 2;
      })
  -- `f() if(1) ; else ;` and on line 2 `5`: the `else` is the function's
  pub after_an_else : CompilesTo [] ((open_function ++ else_empty) ++ last (token.Number 5))
      (record {
        code = text_of_f
            (instr.Constant 1 ∷ instr.JumpIfZero 3 ∷ instr.Jump 3 ∷ instr.Constant 0 ∷ instr.Return ∷ [])
            ∷ [];
        stop = lone_fault letters.Syntax 2;
      })
  -- `f() { 1=2;` and on line 2 `)`: no scan of what is no whole definition
  pub in_a_function : CompilesTo []
      (function (mark token.OpenBrace ∷ number 1 ∷ assign ∷ number 2 ∷ semicolon ∷ []) ++ last token.CloseParen)
      (record { code = []; stop = lone_fault letters.Syntax 2 })
  -- `f() if(1) ; else` and on line 2 `)`: the function isn't whole before its `else` has a statement
  pub in_an_else : CompilesTo [] ((open_function ++ keyword_mark keyword.Else ∷ []) ++ last token.CloseParen)
      (record { code = []; stop = lone_fault letters.Syntax 2 })
