-- Closed facts: trees, and the source that each is the tree of, with the lines that it keeps.
use Rattle.std.specs.Prelude.{◌≡◌, ℕ, List, [], ◌∷◌, ◌++◌, map, codes, Some, None, refl}
use Rattle.bword.specs.declared.edition.Edition.TheVariants as editions
use Rattle.bword.specs.declared.operators.BinOp.TheVariants as op
use Rattle.blang.specs.Cut.{tokens_from, cut, longest, greatest, whole, word_token, keyword_of, number_in}
use Rattle.blang.specs.Cut.{with_quoted_byte, escape_of, operator_of, other_of, fixed_of}
use Rattle.blang.specs.declared.token.Placed.{Placed}
use Rattle.blang.specs.declared.token.Token.TheVariants as token
use Rattle.blang.specs.Trees.{mark, kept_tokens, Identifier, Number, Character, Negate, Not, Indirection, Address}
use Rattle.blang.specs.Trees.{PreIncrement, PreDecrement, PostIncrement, PostDecrement, Expr, Named, Literal, Text}
use Rattle.blang.specs.Trees.{Grouped, Indexed, Called, Postfixed, Prefixed, Binary, Conditional, Assigned}
use Rattle.blang.specs.Trees.{No_arguments, Another, Auto, Extrn, Label, Case, Default, Stmt, Headed, Compound, If}
use Rattle.blang.specs.Trees.{IfElse, While, Switch, Goto, Break, Return, ReturnValue, Evaluate, Empty, Nothing, More}
use Rattle.blang.specs.Trees.{Ival_constant, Ival_text, Ival_name, Definition, Simple, Vector, Function}
use Rattle.blang.specs.Walk.{spell_definition, spell_all}

-- a name of one letter and its line
abbrev word : ℕ → ℕ → Identifier
word letter line = record { text = letter ∷ []; line = line }

abbrev a : ℕ → Expr
a line = Named (word 97 line)

abbrev b : ℕ → Expr
b line = Named (word 98 line)

abbrev number : ℕ → Expr
number n = Literal (Number n)

-- f(), and a statement
abbrev f : Stmt → Definition
f body = Function (word 102 1) [] body

-- a definition and its source
abbrev Row : Type 0
Row = Definition × List ℕ

abbrev spelled : Row → List Placed
spelled r = spell_definition r.0 ++ mark token.End ∷ []

abbrev cut_from : Row → List Placed
cut_from r = kept_tokens (tokens_from editions.Two 1 r.1)

abbrev externals : List Row
externals =
    (Simple (word 97 2) [], codes "\na;")
    ∷ (
      Simple (word 97 1) (Ival_constant (Number 1) ∷ Ival_constant (Character 98) ∷ Ival_text (codes "c") 0
          ∷ Ival_name (word 100 3) ∷ []),
      codes "a 1,'b'\n,\"c\",\nd;",
    )
    ∷ (Vector (word 118 2) None [], codes "\nv[\n];")
    ∷ (Vector (word 118 1) (Some 5) (Ival_name (word 97 2) ∷ []), codes "v[5]\na;")
    ∷ (Function (word 102 1) (word 97 1 ∷ word 98 2 ∷ word 99 2 ∷ []) Empty, codes "f(a,\nb,c);")
    ∷ []

externals_are_spelled : map spelled externals ≡ map cut_from externals
unfolding tokens_from cut longest greatest whole word_token keyword_of number_in with_quoted_byte escape_of operator_of
    other_of fixed_of
externals_are_spelled = refl

abbrev expressions : List Row
expressions = (
  f (Evaluate (Postfixed PostDecrement 3 (Postfixed PostIncrement 2 (Called (Called (Indexed (a 1) (number 1))
      (Another (Another No_arguments (number 2)) (b 1))) No_arguments)))),
  codes "f() a[1](2,b)(\n)++\n--;",
)
    ∷ (
      f (Evaluate (Prefixed Negate 1 (Prefixed Not 2 (Prefixed Indirection 3 (Prefixed Address 4
          (Prefixed PreIncrement 5 (Prefixed PreDecrement 6 (a 7)))))))),
      codes "f() -\n!\n*\n&\n++\n--\na;",
    )
    ∷ (f (Evaluate (Binary op.Add 2 (a 1) (Binary op.Mul 3 (b 2) (a 3)))), codes "f() a\n+b\n*a;")
    ∷ (f (Evaluate (Conditional (a 1) (Text (codes "s") 0) (Grouped (b 3)))), codes "f() a?\"s\":\n(\nb);")
    ∷ (
      f (Evaluate (Assigned None 2 (a 1) (Assigned (Some op.Add) 3 (b 2) (Literal (Character 99))))),
      codes "f() a\n=b\n=+'c';",
    )
    ∷ []

expressions_are_spelled : map spelled expressions ≡ map cut_from expressions
unfolding tokens_from cut longest greatest whole word_token keyword_of number_in with_quoted_byte escape_of operator_of
    other_of fixed_of
expressions_are_spelled = refl

abbrev statements : List Row
statements = (
  f (Compound (More (More Nothing (Headed
      (Auto (record { word = word 97 1; size = None } ∷ record { word = word 98 2; size = Some 5 } ∷ []))
      (Headed (Extrn (word 99 2 ∷ word 100 3 ∷ [])) (Headed (Label (word 108 4)) Empty)))) (Evaluate (a 4)))),
  codes "f() { auto a,\nb 5; extrn c,\nd;\nl:; a; }",
)
    ∷ (
      f (Switch (a 1) (More Nothing (Headed (Case 2 (Number 1)) (Headed (Case 3 (Character 98)) (Headed (Default 4)
          (Break 5)))))),
      codes "f() switch a {\ncase 1:\ncase 'b':\ndefault:\nbreak; }",
    )
    ∷ (
      f (IfElse (a 1) (If (b 1) (Goto (a 2))) (While (b 2) Return)),
      codes "f() if(a) if(b)\ngoto a; else while(b) return;",
    )
    ∷ (f (ReturnValue (a 1)), codes "f() return(a);")
    ∷ []

statements_are_spelled : map spelled statements ≡ map cut_from statements
unfolding tokens_from cut longest greatest whole word_token keyword_of number_in with_quoted_byte escape_of operator_of
    other_of fixed_of
statements_are_spelled = refl

-- definitions one after another
all_are_spelled : spell_all (Simple (word 97 1) [] ∷ f Empty ∷ []) ++ mark token.End ∷ []
    ≡ kept_tokens (tokens_from editions.Two 1 (codes "a; f();"))
unfolding tokens_from cut longest greatest whole word_token keyword_of number_in with_quoted_byte escape_of operator_of
    other_of fixed_of
all_are_spelled = refl
