-- Closed facts: the events and the first fault of a small definition, and its code.
use Rattle.std.specs.Prelude.{◌≡◌, ℕ, List, [], ◌∷◌, map, codes, Some, None, true, false, refl}
use Rattle.bword.specs.declared.operators.BinOp.TheVariants as op
use Rattle.blang.specs.declared.token.Letters.TheVariants as letters
use Rattle.blang.specs.declared.code.Instr.{Instr}
use Rattle.blang.specs.declared.code.Instr.TheVariants as instr
use Rattle.blang.specs.declared.code.Definition as coded
use Rattle.blang.specs.declared.code.Definition.TheVariants as code
use Rattle.blang.specs.Trees.{Identifier, Number, Expr, Named, Literal, Binary, Stmt, Headed, Default, While, Switch}
use Rattle.blang.specs.Trees.{Break, Evaluate, Empty, Auto, Nothing, More, Function, Called, Another, No_arguments}
use Rattle.blang.specs.Trees.{Prefixed, Address, Negate, Not, Indirection, PreDecrement, PostDecrement}
use Rattle.blang.specs.Trees.{Postfixed, Grouped, Indexed, Text, Conditional, Assigned, Extrn, Label, Case, Character}
use Rattle.blang.specs.Trees.{Stmts, Compound, If, IfElse, Goto, Return, ReturnValue}
use Rattle.blang.specs.Walk.{Event, Mention, LvalueWanted, LoopBegins, LoopEnds, AutoHere, ExtrnHere, LabelHere}
use Rattle.blang.specs.Walk.{CaseHere}
use Rattle.blang.specs.Walk.{DefaultHere, BreakHere, SwitchBegins, SwitchEnds, events_in, walk_statement, walk}
use Rattle.blang.specs.Scan.{Unlabelled, undefined, name_fault, function_events}
use Rattle.blang.specs.Code.{code_of}

abbrev word : List ℕ → Identifier
word text = record { text = text; line = 1 }

abbrev number : ℕ → Expr
number n = Literal (Number n)

-- the code of a function f with these parameters
abbrev code_in : List (List ℕ) → Stmt → coded.Definition
code_in parameters body = code_of (Function (word (codes "f")) (map word parameters) body)

abbrev of_f : ℕ → List Instr → coded.Definition
of_f parameters instrs =
    code.Function (record {
      name = codes "f";
      parameters = parameters;
      frame = parameters;
      targets = [];
      strings = [];
      code = instrs;
    })

-- while(i<2) f(&i);
events_of_a_loop : events_in (walk_statement (While (Binary op.Lt 1 (Named (word (codes "i"))) (number 2)) (Evaluate
    (Called (Named (word (codes "f"))) (Another No_arguments (Prefixed Address 1 (Named (word (codes "i")))))))))
    ≡ Mention false (word (codes "i")) ∷ LoopBegins ∷ Mention true (word (codes "f")) ∷ Mention false (word (codes "i"))
    ∷ LvalueWanted 1 (Named (word (codes "i"))) ∷ LoopEnds ∷ []
events_of_a_loop = refl

abbrev p : Expr
p = Named (word (codes "p"))

abbrev q : Expr
q = Named (word (codes "q"))

-- that an expression mentions both, and nothing else
abbrev p_and_q : List Event
p_and_q = Mention false (word (codes "p")) ∷ Mention false (word (codes "q")) ∷ []

-- p[q], p+q, p?q:1, (p)(q), "s"+p*-q, !p=*q
mentions : map (λ e. events_in (walk e)) (Indexed p q ∷ Binary op.Add 1 p q ∷ Conditional p q (number 1)
    ∷ Called (Grouped p) (Another No_arguments q)
    ∷ Binary op.Add 1 (Text (codes "s") 0) (Binary op.Mul 1 p (Prefixed Negate 1 q))
    ∷ Called (Prefixed Not 1 p) (Another (Another No_arguments (Prefixed Indirection 1 q)) (number 1)) ∷ [])
    ≡ p_and_q ∷ p_and_q ∷ p_and_q ∷ p_and_q ∷ p_and_q ∷ p_and_q ∷ []
mentions = refl

-- an assignment looks at its left side when that was read, before its right one; & and -- when theirs was
lvalues : events_in
    (walk (Assigned None 2 p (Prefixed Address 3 (Prefixed PreDecrement 4 (Postfixed PostDecrement 5 q)))))
    ≡ Mention false (word (codes "p")) ∷ LvalueWanted 2 p ∷ Mention false (word (codes "q")) ∷ LvalueWanted 5 q
    ∷ LvalueWanted 4 (Postfixed PostDecrement 5 q)
    ∷ LvalueWanted 3 (Prefixed PreDecrement 4 (Postfixed PostDecrement 5 q)) ∷ []
lvalues = refl

abbrev after : Stmts → List Stmt → Stmts
after before [] = before
after before (s ∷ ss) = after (More before s) ss

-- f(p) { auto q, v 2; extrn x; l: if(p) goto q; switch p { case 3: break; default: q; }
-- while(p) if(q) return(p); else q; }
events_of_a_function : function_events (word (codes "p") ∷ []) (Compound (after Nothing (
    Headed (Auto (record { word = word (codes "q"); size = None }
    ∷ record { word = word (codes "v"); size = Some 2 } ∷ []))
    (Headed (Extrn (word (codes "x") ∷ [])) (Headed (Label (word (codes "l"))) (If p (Goto q))))
    ∷ Switch p (after Nothing (Headed (Case 2 (Character 3)) (Break 3) ∷ Headed (Default 4) (Evaluate q) ∷ []))
    ∷ While p (IfElse q (ReturnValue p) (Evaluate q)) ∷ Return ∷ [])))
    ≡ AutoHere (word (codes "p")) None ∷ AutoHere (word (codes "q")) None ∷ AutoHere (word (codes "v")) (Some 2)
    ∷ ExtrnHere (word (codes "x")) ∷ LabelHere (word (codes "l")) ∷ Mention false (word (codes "p"))
    ∷ Mention false (word (codes "q")) ∷ Mention false (word (codes "p")) ∷ SwitchBegins ∷ CaseHere 2 3 ∷ BreakHere 3
    ∷ DefaultHere 4 ∷ Mention false (word (codes "q")) ∷ SwitchEnds ∷ Mention false (word (codes "p")) ∷ LoopBegins
    ∷ Mention false (word (codes "q")) ∷ Mention false (word (codes "p")) ∷ Mention false (word (codes "q")) ∷ LoopEnds
    ∷ []
events_of_a_function = refl

-- of two names without labels the first is told
first_undefined : undefined (record { name = codes "a"; kind = Unlabelled 1 }
    ∷ record { name = codes "b"; kind = Unlabelled 2 } ∷ [])
    ≡ Some (name_fault letters.Undefined (word (codes "a")))
first_undefined = refl

-- f(a, b) a-b;
left_first : code_in (codes "a" ∷ codes "b" ∷ [])
    (Evaluate (Binary op.Sub 1 (Named (word (codes "a"))) (Named (word (codes "b")))))
    ≡ of_f 2 (instr.Automatic 0 ∷ instr.Load ∷ instr.Automatic 1 ∷ instr.Load ∷ instr.Binary op.Sub ∷ instr.Pop
    ∷ instr.Constant 0 ∷ instr.Return ∷ [])
left_first = refl

-- f() {auto v 1, w 1; }: the first vector is set first
first_vector_first : code_in []
    (Headed
    (Auto (record { word = word (codes "v"); size = Some 1 } ∷ record { word = word (codes "w"); size = Some 1 } ∷ []))
    Empty)
    ≡ code.Function (record {
      name = codes "f";
      parameters = 0;
      frame = 6;
      targets = [];
      strings = [];
      code = instr.Automatic 0 ∷ instr.Automatic 1 ∷ instr.Store ∷ instr.Pop ∷ instr.Automatic 3 ∷ instr.Automatic 4
          ∷ instr.Store ∷ instr.Pop ∷ instr.Constant 0 ∷ instr.Return ∷ [];
    })
first_vector_first = refl

-- f() while(1) while(2) break;
breaks_the_inner_loop : code_in [] (While (number 1) (While (number 2) (Break 1)))
    ≡ of_f 0 (instr.Constant 1 ∷ instr.JumpIfZero 7 ∷ instr.Constant 2 ∷ instr.JumpIfZero 6 ∷ instr.Jump 6
    ∷ instr.Jump 2 ∷ instr.Jump 0 ∷ instr.Constant 0 ∷ instr.Return ∷ [])
breaks_the_inner_loop = refl

-- f() switch 5 { default: 6; }
default_alone : code_in [] (Switch (number 5) (More Nothing (Headed (Default 1) (Evaluate (number 6)))))
    ≡ of_f 0 (instr.Constant 5 ∷ instr.Jump 5 ∷ instr.Constant 6 ∷ instr.Pop ∷ instr.Jump 7 ∷ instr.Pop
    ∷ instr.Jump 2 ∷ instr.Constant 0 ∷ instr.Return ∷ [])
default_alone = refl
