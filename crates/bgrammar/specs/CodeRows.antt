-- Closed facts: definitions with their code, or their fault.
use Rattle.std.specs.Prelude.{◌≡◌, ℕ, ◌+◌, zero, suc, List, [], ◌∷◌, ◌++◌, length, Option, Some, None, Ok}
use Rattle.bword.specs.declared.operators.BinOp.TheVariants as op
use Rattle.blang.specs.declared.token.Letters.{Letters}
use Rattle.blang.specs.declared.token.Letters.TheVariants as letters
use Rattle.blang.specs.declared.token.Token.TheVariants as token
use Rattle.blang.specs.declared.token.Keyword.TheVariants as keyword
use Rattle.blang.specs.declared.token.Placed.{Placed}
use Rattle.blang.specs.declared.token.About.TheVariants as about
use Rattle.blang.specs.declared.token.Diagnostic.{Diagnostic}
use Rattle.blang.specs.declared.code.Instr.{Instr}
use Rattle.blang.specs.declared.code.Instr.TheVariants as instr
use Rattle.blang.specs.declared.code.Increment.TheVariants as increment
use Rattle.blang.specs.declared.code.Ival.TheVariants as ival
use Rattle.blang.specs.declared.code.Definition as coded
use Rattle.blang.specs.declared.code.Definition.TheVariants as code
use Rattle.blang.specs.Trees.{mark, Stmt, keyword_mark, Definition}
use Rattle.blang.specs.Cut.{placed}
use Rattle.bgrammar.specs.Reading.{Read, Got}
use Rattle.bgrammar.specs.Fitting.{statement_words, strings, statement_strings}
use Rattle.bgrammar.specs.DefinitionReader.{definition}
use Rattle.blang.specs.Scan.{Scope, scanned}
use Rattle.blang.specs.Walk.{Event}
use Rattle.blang.specs.Code.{Environment, fragment, code_of, fault_of}
use Rattle.bgrammar.specs.Rows.{name, operator, assign, string}

abbrev pub number : ℕ → Placed
number n = mark (token.Number n)

abbrev pub semicolon : Placed
semicolon = mark token.Semicolon

-- a statement in the body of `f` with these parameters
abbrev pub parenthesized : List Placed → List Placed
parenthesized ts = mark token.OpenParen ∷ (ts ++ mark token.CloseParen ∷ [])

abbrev pub braced : List Placed → List Placed
braced ts = mark token.OpenBrace ∷ (ts ++ mark token.CloseBrace ∷ [])

abbrev pub function_f : List Placed → List Placed → List Placed
function_f parameters ts = name 102 ∷ (parenthesized parameters ++ ts)

-- the code of the definition that these tokens are
abbrev pub code_read : Read Definition → Option coded.Definition
code_read (Got d []) = Some (code_of d)
code_read _ = None

abbrev pub code_at : List Placed → Option coded.Definition
code_at ts = code_read (definition ts)

-- what no definition has
abbrev pub not_read : Option Diagnostic
not_read = Some (record { letters = letters.Syntax; about = about.Nothing; line = 0 })

abbrev pub fault_read : List (List ℕ) → Read Definition → Option Diagnostic
fault_read defined (Got d []) = fault_of defined d
fault_read defined _ = not_read

abbrev pub fault_in : List (List ℕ) → List Placed → Option Diagnostic
fault_in defined ts = fault_read defined (definition ts)

abbrev pub of_f : ℕ → ℕ → List ℕ → List ℕ → List Instr → Option coded.Definition
of_f parameters frame targets strings instrs =
    Some (code.Function
    (record {
      name = 102
          ∷ [];
      parameters = parameters;
      frame = frame;
      targets = targets;
      strings = strings;
      code = instrs;
    }))

abbrev pub name_fault : Letters → ℕ → ℕ → Option Diagnostic
name_fault l letter line = Some (record { letters = l; about = about.Name (letter ∷ []); line = line })

abbrev pub lone_fault : Letters → ℕ → Option Diagnostic
lone_fault l line = Some (record { letters = l; about = about.Nothing; line = line })

abbrev pub case_fault : Letters → ℕ → Option Diagnostic
case_fault l line = Some (record { letters = l; about = about.Case; line = line })

abbrev pub break_fault : ℕ → Option Diagnostic
break_fault line = Some (record { letters = letters.Syntax; about = about.Break; line = line })

abbrev pub default_fault : Letters → ℕ → Option Diagnostic
default_fault l line = Some (record { letters = l; about = about.Default; line = line })

abbrev pub case_token : ℕ → Placed
case_token line = placed (token.Keyword keyword.Case) line

-- `break;`, and `default:`
abbrev pub break_on : ℕ → List Placed
break_on line = placed (token.Keyword keyword.Break) line ∷ mark token.Semicolon ∷ []

abbrev pub default_on : ℕ → List Placed
default_on line = placed (token.Keyword keyword.Default) line ∷ mark token.Colon ∷ []

-- different names, one for each number below n, with commas between them
abbrev pub names_below : ℕ → List Placed
names_below zero = []
names_below (suc zero) = name 0 ∷ []
names_below (suc (suc n)) = name (suc n) ∷ mark token.Comma ∷ names_below (suc n)

-- a case for each number below n
abbrev pub cases_below : ℕ → List Placed
cases_below zero = []
cases_below (suc n) = case_token 2 ∷ number n ∷ mark token.Colon ∷ cases_below n

pub record CodeRows : Type 0 where
  -- `f(a) a=!a;`
  pub assigned : code_at (function_f (name 97 ∷ []) (name 97 ∷ assign ∷ placed token.Not 1 ∷ name 97 ∷ semicolon ∷ []))
      ≡ of_f 1 1 [] []
      (instr.Automatic 0 ∷ instr.Automatic 0 ∷ instr.Load ∷ instr.Not ∷ instr.Store ∷ instr.Pop ∷ instr.Constant 0
      ∷ instr.Return ∷ [])
  -- `f(a, b) a-b;`
  pub subtracted : code_at
      (function_f (name 97 ∷ mark token.Comma ∷ name 98 ∷ []) (name 97 ∷ operator op.Sub ∷ name 98 ∷ semicolon ∷ []))
      ≡ of_f 2 2 [] []
      (instr.Automatic 0 ∷ instr.Load ∷ instr.Automatic 1 ∷ instr.Load ∷ instr.Binary op.Sub ∷ instr.Pop
      ∷ instr.Constant 0 ∷ instr.Return ∷ [])
  -- `f(x) return(x ? 1 : 2);`
  pub conditional : code_at
      (function_f (name 120 ∷ [])
      (keyword_mark keyword.Return
      ∷ (parenthesized (name 120 ∷ mark token.Question ∷ number 1 ∷ mark token.Colon ∷ number 2 ∷ []) ++ semicolon
      ∷ []))) ≡ of_f 1 1 [] []
      (instr.Automatic 0 ∷ instr.Load ∷ instr.JumpIfZero 5 ∷ instr.Constant 1 ∷ instr.Jump 6 ∷ instr.Constant 2
      ∷ instr.Return ∷ instr.Constant 0 ∷ instr.Return ∷ [])
  -- `f() while(1) if(2) 3; else 4;`
  pub loop : code_at
      (function_f []
      (keyword_mark keyword.While
      ∷ (parenthesized (number 1 ∷ [])
      ++ (keyword_mark keyword.If
      ∷ (parenthesized (number 2 ∷ [])
      ++ (number 3 ∷ semicolon ∷ keyword_mark keyword.Else ∷ number 4 ∷ semicolon ∷ []))))))
      ≡ of_f 0 0 [] []
      (instr.Constant 1 ∷ instr.JumpIfZero 10 ∷ instr.Constant 2 ∷ instr.JumpIfZero 7 ∷ instr.Constant 3 ∷ instr.Pop
      ∷ instr.Jump 9 ∷ instr.Constant 4 ∷ instr.Pop ∷ instr.Jump 0 ∷ instr.Constant 0 ∷ instr.Return ∷ [])
  -- `f(a) while(a) { a--; break; }`
  pub broken : code_at
      (function_f (name 97 ∷ [])
      (keyword_mark keyword.While
      ∷ (parenthesized (name 97 ∷ []) ++ braced (name 97 ∷ placed token.Decrement 1 ∷ semicolon ∷ break_on 1))))
      ≡ of_f 1 1 [] []
      (instr.Automatic 0 ∷ instr.Load ∷ instr.JumpIfZero 8 ∷ instr.Automatic 0 ∷ instr.Increment increment.PostDecrement
      ∷ instr.Pop ∷ instr.Jump 8 ∷ instr.Jump 0 ∷ instr.Constant 0 ∷ instr.Return ∷ [])
  -- `f(a) switch a { case 1: break; default: a=2; }`
  pub defaulted : code_at
      (function_f (name 97 ∷ [])
      (keyword_mark keyword.Switch ∷ name 97 ∷ braced
      (case_token 1 ∷ number 1 ∷ mark token.Colon
      ∷ (break_on 1 ++ (default_on 1 ++ (name 97 ∷ assign ∷ number 2 ∷ semicolon ∷ []))))))
      ≡ of_f 1 1 [] []
      (instr.Automatic 0 ∷ instr.Load ∷ instr.Jump 9 ∷ instr.Jump 12 ∷ instr.Automatic 0 ∷ instr.Constant 2
      ∷ instr.Store ∷ instr.Pop ∷ instr.Jump 12 ∷ instr.JumpIfCase 1 3 ∷ instr.Pop ∷ instr.Jump 4 ∷ instr.Constant 0
      ∷ instr.Return ∷ [])
  -- `f(a) switch a { case 1: 4; default: a; case 2: ; }`, and a default without a case
  pub between : code_at
      (function_f (name 97 ∷ [])
      (keyword_mark keyword.Switch ∷ name 97 ∷ braced
      (case_token 1 ∷ number 1 ∷ mark token.Colon ∷ number 4 ∷ semicolon
      ∷ (default_on 1 ++ (name 97 ∷ semicolon ∷ case_token 1 ∷ number 2 ∷ mark token.Colon ∷ semicolon ∷ [])))))
      ≡ of_f 1 1 [] []
      (instr.Automatic 0 ∷ instr.Load ∷ instr.Jump 9 ∷ instr.Constant 4 ∷ instr.Pop ∷ instr.Automatic 0 ∷ instr.Load
      ∷ instr.Pop ∷ instr.Jump 13 ∷ instr.JumpIfCase 1 3 ∷ instr.JumpIfCase 2 8 ∷ instr.Pop ∷ instr.Jump 5
      ∷ instr.Constant 0 ∷ instr.Return ∷ [])
  pub default_alone : code_at
      (function_f [] (keyword_mark keyword.Switch ∷ number 5 ∷ braced (default_on 1 ++ (number 6 ∷ semicolon ∷ []))))
      ≡ of_f 0 0 [] []
      (instr.Constant 5 ∷ instr.Jump 5 ∷ instr.Constant 6 ∷ instr.Pop ∷ instr.Jump 7 ∷ instr.Pop ∷ instr.Jump 2
      ∷ instr.Constant 0 ∷ instr.Return ∷ [])
  -- `f() while(1) { switch 2 { default: while(3) break; break; case 4: ; } break; }`: each leaves its own
  pub nested : code_at
      (function_f []
      (keyword_mark keyword.While
      ∷ (parenthesized (number 1 ∷ []) ++ braced
      (keyword_mark keyword.Switch ∷ number 2
      ∷ (braced
      (default_on 1
      ++ (keyword_mark keyword.While
      ∷ (parenthesized (number 3 ∷ [])
      ++ (break_on 1 ++ (break_on 1 ++ (case_token 1 ∷ number 4 ∷ mark token.Colon ∷ semicolon ∷ [])))))) ++ break_on
      1))))) ≡ of_f 0 0 [] []
      (instr.Constant 1 ∷ instr.JumpIfZero 15 ∷ instr.Constant 2 ∷ instr.Jump 10 ∷ instr.Constant 3 ∷ instr.JumpIfZero 8
      ∷ instr.Jump 8 ∷ instr.Jump 4 ∷ instr.Jump 13 ∷ instr.Jump 13 ∷ instr.JumpIfCase 4 9 ∷ instr.Pop ∷ instr.Jump 4
      ∷ instr.Jump 15 ∷ instr.Jump 0 ∷ instr.Constant 0 ∷ instr.Return ∷ [])
  -- `f(a) { auto v 1, i; L: v[i] =+ a; switch a { case 2: goto L; } return(i); }`
  pub whole : code_at
      (function_f (name 97 ∷ [])
      (braced (keyword_mark keyword.Auto ∷ name 118 ∷ number 1 ∷ mark token.Comma ∷ name 105 ∷ semicolon ∷ name 76
      ∷ mark token.Colon ∷ name 118 ∷ mark token.OpenBracket ∷ name 105 ∷ mark token.CloseBracket ∷ placed
      (token.Assign (Some op.Add)) 1 ∷ name 97 ∷ semicolon ∷ keyword_mark keyword.Switch ∷ name 97
      ∷ (braced (case_token 1 ∷ number 2 ∷ mark token.Colon ∷ keyword_mark keyword.Goto ∷ name 76 ∷ semicolon ∷ [])
      ++ (keyword_mark keyword.Return ∷ (parenthesized (name 105 ∷ []) ++ semicolon ∷ []))))))
      ≡ of_f 1 5 (4 ∷ []) []
      (instr.Automatic 1 ∷ instr.Automatic 2 ∷ instr.Store ∷ instr.Pop ∷ instr.Automatic 1 ∷ instr.Load
      ∷ instr.Automatic 4 ∷ instr.Load ∷ instr.Binary op.Add ∷ instr.Automatic 0 ∷ instr.Load ∷ instr.Modify op.Add
      ∷ instr.Pop ∷ instr.Automatic 0 ∷ instr.Load ∷ instr.Jump 19 ∷ instr.Label 0 ∷ instr.Goto ∷ instr.Jump 21
      ∷ instr.JumpIfCase 2 16 ∷ instr.Pop ∷ instr.Automatic 4 ∷ instr.Load ∷ instr.Return ∷ instr.Constant 0
      ∷ instr.Return ∷ [])
  -- `f(p) { extrn h; g("ab", p++, &*p, -"c"); h = --p; }`
  pub called : code_at
      (function_f (name 112 ∷ [])
      (braced (keyword_mark keyword.Extrn ∷ name 104 ∷ semicolon ∷ name 103
      ∷ (parenthesized
      (string (97 ∷ 98 ∷ []) ∷ mark token.Comma ∷ name 112 ∷ placed token.Increment 1 ∷ mark token.Comma ∷ operator
      op.And ∷ operator op.Mul ∷ name 112 ∷ mark token.Comma ∷ operator op.Sub ∷ string (99 ∷ []) ∷ [])
      ++ (semicolon ∷ name 104 ∷ assign ∷ placed token.Decrement 1 ∷ name 112 ∷ semicolon ∷ [])))))
      ≡ of_f 1 1 [] (25185 ∷ 4 ∷ 1123 ∷ [])
      (instr.External (103 ∷ []) ∷ instr.Load ∷ instr.Text 0 ∷ instr.Automatic 0 ∷ instr.Increment
      increment.PostIncrement ∷ instr.Automatic 0 ∷ instr.Load ∷ instr.Text 2 ∷ instr.Negate ∷ instr.Call 4 ∷ instr.Pop
      ∷ instr.External (104 ∷ []) ∷ instr.Automatic 0 ∷ instr.Increment increment.PreDecrement ∷ instr.Store ∷ instr.Pop
      ∷ instr.Constant 0 ∷ instr.Return ∷ [])
  -- `s "ab", t, 'x';`
  pub simple : code_at
      (name 115 ∷ string (97 ∷ 98 ∷ []) ∷ mark token.Comma ∷ name 116 ∷ mark token.Comma ∷ mark (token.Character 120)
      ∷ semicolon ∷ [])
      ≡ Some (code.Simple
      (record {
        name = 115 ∷ [];
        values = ival.Text 0 ∷ ival.Name (116 ∷ []) ∷ ival.Number 120 ∷ [];
        strings = 25185 ∷ 4
            ∷ [];
      }))
  -- `v[2] 1,2,3,4;` and `v[];`
  pub vector : code_at
      (name 118 ∷ mark token.OpenBracket ∷ number 2 ∷ mark token.CloseBracket ∷ number 1 ∷ mark token.Comma ∷ number 2
      ∷ mark token.Comma ∷ number 3 ∷ mark token.Comma ∷ number 4 ∷ semicolon ∷ [])
      ≡ Some (code.Vector
      (record {
        name = 118 ∷ [];
        words = 4;
        values = ival.Number 1 ∷ ival.Number 2 ∷ ival.Number 3 ∷ ival.Number 4
            ∷ [];
        strings = [];
      }))
  pub empty_brackets : code_at (name 118 ∷ mark token.OpenBracket ∷ mark token.CloseBracket ∷ semicolon ∷ [])
      ≡ Some (code.Vector (record { name = 118 ∷ []; words = 1; values = []; strings = [] }))

pub record FaultRows : Type 0 where
  -- `a;` after a definition of `a`, and without
  pub defined : fault_in ((97 ∷ []) ∷ []) (name 97 ∷ semicolon ∷ []) ≡ name_fault letters.Redeclared 97 1
  pub none : fault_in ((98 ∷ []) ∷ []) (name 97 ∷ semicolon ∷ []) ≡ None
  -- `f() 1=2;`, `f() { extrn x; -x=1; }`, `f() x=5;`
  pub constant_assigned : fault_in []
      (function_f [] (number 1 ∷ placed (token.Assign None) 3 ∷ number 2 ∷ semicolon ∷ []))
      ≡ lone_fault letters.NotLvalue 3
  pub negation_assigned : fault_in []
      (function_f []
      (keyword_mark keyword.Extrn ∷ name 120 ∷ semicolon ∷ operator op.Sub ∷ name 120 ∷ placed (token.Assign None) 3
      ∷ number 1 ∷ semicolon ∷ [])) ≡ lone_fault letters.NotLvalue 3
  pub label_assigned : fault_in [] (function_f [] (name 120 ∷ placed (token.Assign None) 3 ∷ number 5 ∷ semicolon ∷ []))
      ≡ lone_fault letters.NotLvalue 3
  -- `f() { (x); goto L; x: ; }` on two lines
  pub no_label : fault_in []
      (function_f []
      (braced (mark token.OpenParen ∷ name 120 ∷ mark token.CloseParen ∷ semicolon ∷ keyword_mark keyword.Goto ∷ placed
      (token.Name (76 ∷ [])) 2 ∷ semicolon ∷ name 120 ∷ mark token.Colon ∷ semicolon ∷ [])))
      ≡ name_fault letters.Undefined 76 2
  -- a name without a label is a fault after all others: `f() { x; auto a, a; ; }`
  pub names_first : fault_in []
      (function_f []
      (braced (name 120 ∷ semicolon ∷ keyword_mark keyword.Auto ∷ name 97 ∷ mark token.Comma ∷ placed
      (token.Name (97 ∷ [])) 2 ∷ semicolon ∷ semicolon ∷ []))) ≡ name_fault letters.Redeclared 97 2
  -- `f(x) { x: ; }` and `f() { x(); x: ; }`
  pub parameter_label : fault_in []
      (function_f (name 120 ∷ []) (placed (token.Name (120 ∷ [])) 2 ∷ mark token.Colon ∷ semicolon ∷ []))
      ≡ name_fault letters.Redeclared 120 2
  pub called_label : fault_in []
      (function_f []
      (braced (name 120 ∷ mark token.OpenParen ∷ mark token.CloseParen ∷ semicolon ∷ placed (token.Name (120 ∷ [])) 2
      ∷ mark token.Colon ∷ semicolon ∷ []))) ≡ name_fault letters.Redeclared 120 2
  -- `f() case 1: ;`, and the same constant in one switch and in two
  pub no_switch : fault_in [] (function_f [] (case_token 4 ∷ number 1 ∷ mark token.Colon ∷ semicolon ∷ []))
      ≡ case_fault letters.Syntax 4
  pub same_case : fault_in []
      (function_f []
      (keyword_mark keyword.Switch ∷ number 1
      ∷ (braced
      (case_token 1 ∷ number 97 ∷ mark token.Colon ∷ semicolon ∷ case_token 2 ∷ mark (token.Character 97) ∷ mark
      token.Colon ∷ semicolon ∷ [])))) ≡ case_fault letters.Redeclared 2
  pub inner_case : fault_in []
      (function_f []
      (keyword_mark keyword.Switch ∷ number 1
      ∷ (braced
      (case_token 1 ∷ number 2 ∷ mark token.Colon ∷ keyword_mark keyword.Switch ∷ number 1
      ∷ (braced (case_token 1 ∷ number 2 ∷ mark token.Colon ∷ semicolon ∷ [])
      ++ (case_token 1 ∷ number 3 ∷ mark token.Colon ∷ semicolon ∷ [])))))) ≡ None
  -- `f() break;`, and after a loop
  pub no_loop : fault_in [] (function_f [] (break_on 4)) ≡ break_fault 4
  pub after_loop : fault_in []
      (function_f []
      (braced (keyword_mark keyword.While ∷ (parenthesized (number 1 ∷ []) ++ (break_on 2 ++ break_on 3)))))
      ≡ break_fault 3
  -- `f() default: ;`, also in a loop, twice in one switch, and in two
  pub lone_default : fault_in [] (function_f [] (default_on 4 ++ (semicolon ∷ []))) ≡ default_fault letters.Syntax 4
  pub loop_default : fault_in []
      (function_f []
      (keyword_mark keyword.While ∷ (parenthesized (number 1 ∷ []) ++ (default_on 4 ++ (semicolon ∷ [])))))
      ≡ default_fault letters.Syntax 4
  pub same_default : fault_in []
      (function_f []
      (keyword_mark keyword.Switch ∷ number 1 ∷ braced
      (default_on 1 ++ (semicolon ∷ (default_on 2 ++ (semicolon ∷ [])))))) ≡ default_fault letters.Redeclared 2
  pub inner_default : fault_in []
      (function_f []
      (keyword_mark keyword.Switch ∷ number 1 ∷ braced
      (default_on 1 ++ (keyword_mark keyword.Switch ∷ number 1 ∷ braced (default_on 2 ++ (break_on 2)))))) ≡ None
  -- 128 parameters, 129 parameters, and 128 with another name; the names come from the greatest number down
  pub most_names : fault_in [] (function_f (names_below 128) (semicolon ∷ [])) ≡ None
  pub too_many_names : fault_in [] (function_f (names_below 129) (semicolon ∷ [])) ≡ lone_fault letters.TooManyNames 1
  pub one_more_name : fault_in []
      (function_f (names_below 128)
      (placed (token.Name (200 ∷ [])) 2 ∷ placed (token.Assign None) 3 ∷ number 1 ∷ semicolon ∷ []))
      ≡ lone_fault letters.TooManyNames 2
  -- 256 cases, and 257
  pub most_cases : fault_in []
      (function_f [] (keyword_mark keyword.Switch ∷ number 1 ∷ braced (cases_below 256 ++ semicolon ∷ []))) ≡ None
  pub too_many_cases : fault_in []
      (function_f [] (keyword_mark keyword.Switch ∷ number 1 ∷ braced (cases_below 257 ++ semicolon ∷ [])))
      ≡ lone_fault letters.TooManyCases 2
  -- `f() { extrn x; (x)=1; x[0]++; *x=1; }`
  pub lvalues : fault_in []
      (function_f []
      (keyword_mark keyword.Extrn ∷ name 120 ∷ semicolon
      ∷ (braced
      (mark token.OpenParen ∷ name 120 ∷ mark token.CloseParen ∷ assign ∷ number 1 ∷ semicolon ∷ name 120 ∷ mark
      token.OpenBracket ∷ number 0 ∷ mark token.CloseBracket ∷ placed token.Increment 1 ∷ semicolon ∷ operator op.Mul
      ∷ name 120 ∷ assign ∷ number 1 ∷ semicolon ∷ [])))) ≡ None
  -- `v[32766];` and `v[32767];`
  pub largest : fault_in []
      (name 118 ∷ mark token.OpenBracket ∷ number 32766 ∷ mark token.CloseBracket ∷ semicolon ∷ []) ≡ None
  pub too_large : fault_in []
      (name 118 ∷ mark token.OpenBracket ∷ number 32767 ∷ mark token.CloseBracket ∷ semicolon ∷ [])
      ≡ lone_fault letters.TooLarge 1
  -- `f() { auto v 32765; ; }` and `f() { auto v 32766; ; }`
  pub largest_frame : fault_in []
      (function_f [] (keyword_mark keyword.Auto ∷ name 118 ∷ number 32765 ∷ semicolon ∷ semicolon ∷ [])) ≡ None
  pub too_large_frame : fault_in []
      (function_f [] (keyword_mark keyword.Auto ∷ name 118 ∷ number 32766 ∷ semicolon ∷ semicolon ∷ []))
      ≡ lone_fault letters.TooLarge 1

-- the scan of one list of events after another
abbrev pub ScansOn : Type 0
ScansOn = (es fs : List Event) (s : Scope) → scanned (es ++ fs) (Ok s) ≡ scanned fs (scanned es (Ok s))

-- the words of the strings are as many as their offsets count
abbrev pub CountsWords : Type 0
CountsWords = (s : Stmt) → length (statement_strings s) ≡ statement_words s

-- the code of a statement ends where it is said to, wherever a break leads
abbrev pub CodeEnds : Type 0
CodeEnds =
    (names : Environment) (s : Stmt) (p out : ℕ) → p + length ((fragment names s p).code out) ≡ (fragment names s p).end
