-- Closed facts: the nodes of small trees, of each two operators in a row, and of tokens that are no program's.
use Rattle.std.specs.Prelude.{◌≡◌, ℕ, codes, if◌then◌else◌, List, [], ◌∷◌, ◌++◌, None, Some, map, nat_le, refl}
use Rattle.std.specs.List.{flat_map}
use Rattle.bword.specs.declared.operators.BinOp.{BinOp}
use Rattle.bword.specs.declared.operators.BinOp.TheVariants as op
use Rattle.blang.specs.declared.token.Token.{Token}
use Rattle.blang.specs.declared.token.Token.TheVariants as token
use Rattle.blang.specs.Trees.{Address, Another, Assigned, Auto, Binary, Break, Called, Case, Character, Compound}
use Rattle.blang.specs.Trees.{Conditional, Default, Empty, Evaluate, Expr, Extrn, Function, Goto, Grouped}
use Rattle.blang.specs.Trees.{Headed, Identifier, If, IfElse, Indexed, Indirection, Ival_constant, Label, Literal, More}
use Rattle.blang.specs.Trees.{Named, Negate, No_arguments, Not, Nothing, Number, PostDecrement, PostIncrement}
use Rattle.blang.specs.Trees.{Postfixed}
use Rattle.blang.specs.Trees.{PreDecrement, PreIncrement, Prefixed, Return, ReturnValue, Simple, Switch, Text}
use Rattle.blang.specs.Trees.{Vector, While}
use Rattle.blex.specs.Lexemes.{lexeme_of}
use Rattle.btree.specs.declared.nodes.Node.{Node}
use Rattle.btree.specs.declared.nodes.Node.TheVariants as node
use Rattle.btree.specs.declared.nodes.NodeTag.{NodeTag}
use Rattle.btree.specs.declared.nodes.NodeTag.TheVariants as tag
use Rattle.btree.specs.declared.nodes.Stage.TheVariants as stage
use Rattle.btree.specs.NodeMachine.{node_run}
use Rattle.btree.specs.Nodes.{nodes, program_nodes, statement_nodes}

abbrev a : Identifier
a = record { text = codes "a"; line = 1 }

abbrev x : Expr
x = Named a

abbrev t : NodeTag
t = tag.Token

abbrev m : Node → NodeTag
m n = tag.Made n

-- the row of a name
abbrev n : NodeTag
n = tag.Made node.Name

abbrev v : NodeTag
v = tag.Made node.Evaluated

-- a   1   '1'   "1"   (a)
operands : map nodes (x ∷ Literal (Number 1) ∷ Literal (Character 49) ∷ Text (49 ∷ []) 0 ∷ Grouped x ∷ [])
    ≡ (t ∷ n ∷ []) ∷ (t ∷ m node.Constant ∷ []) ∷ (t ∷ m node.Constant ∷ []) ∷ (t ∷ m node.Text ∷ [])
    ∷ (t ∷ t ∷ n ∷ t ∷ m node.Grouped ∷ []) ∷ []
operands = refl

-- a[a]   a()   a(a)   a(a,a)   a++   a--
postfixes : map nodes (Indexed x x ∷ Called x No_arguments ∷ Called x (Another No_arguments x)
    ∷ Called x (Another (Another No_arguments x) x) ∷ Postfixed PostIncrement 1 x ∷ Postfixed PostDecrement 1 x ∷ [])
    ≡ (t ∷ n ∷ t ∷ t ∷ n ∷ t ∷ m node.Indexed ∷ [])
    ∷ (t ∷ n ∷ t ∷ m node.NoArguments ∷ t ∷ m node.Called ∷ [])
    ∷ (t ∷ n ∷ t ∷ m node.NoArguments ∷ t ∷ n ∷ m node.Argument ∷ t ∷ m node.Called ∷ [])
    ∷ (t ∷ n ∷ t ∷ m node.NoArguments ∷ t ∷ n ∷ m node.Argument ∷ t ∷ t ∷ n ∷ m node.Argument ∷ t
    ∷ m node.Called ∷ [])
    ∷ (t ∷ n ∷ t ∷ m node.PostIncrement ∷ []) ∷ (t ∷ n ∷ t ∷ m node.PostDecrement ∷ []) ∷ []
postfixes = refl

-- -a   !a   *a   &a   ++a   --a
prefixes : map (λ p. nodes (Prefixed p 1 x)) (Negate ∷ Not ∷ Indirection ∷ Address ∷ PreIncrement ∷ PreDecrement ∷ [])
    ≡ map (λ p. t ∷ t ∷ n ∷ m p ∷ [])
    (node.Negate ∷ node.Not ∷ node.Indirection ∷ node.Address ∷ node.PreIncrement ∷ node.PreDecrement ∷ [])
prefixes = refl

-- the binary operators, and how loosely each of them binds
abbrev operators : List (BinOp × ℕ)
operators =
    (op.Mul, 1) ∷ (op.Div, 1) ∷ (op.Rem, 1) ∷ (op.Add, 2) ∷ (op.Sub, 2) ∷ (op.Shl, 3) ∷ (op.Shr, 3) ∷ (op.Lt, 4)
    ∷ (op.Le, 4) ∷ (op.Gt, 4) ∷ (op.Ge, 4) ∷ (op.Eq, 5) ∷ (op.Ne, 5) ∷ (op.And, 6) ∷ (op.Or, 7) ∷ []

-- a+a, and so on
binaries : map (λ p. nodes (Binary p.0 1 x x)) operators
    ≡ map (λ p. t ∷ n ∷ t ∷ t ∷ n ∷ m (node.Binary p.0) ∷ []) operators
binaries = refl

-- a=a   a=+a, and so on   a?a:a
looser : (map (λ p. nodes (Assigned (Some p.0) 1 x x)) operators
    ≡ map (λ p. t ∷ n ∷ t ∷ t ∷ n ∷ m (node.Assigned (Some p.0)) ∷ []) operators)
    × (nodes (Assigned None 1 x x) ≡ t ∷ n ∷ t ∷ t ∷ n ∷ m (node.Assigned None) ∷ [])
    × (nodes (Conditional x x x) ≡ t ∷ n ∷ t ∷ t ∷ n ∷ t ∷ t ∷ n ∷ m node.Conditional ∷ [])
looser = (refl, refl, refl)

abbrev made : List Token → List NodeTag
made tokens = node_run stage.Operand [] (map lexeme_of tokens)

abbrev name : Token
name = token.Name (codes "a")

-- a+a*a; and so on: the second operator is made first where it binds tighter
abbrev in_row : BinOp × ℕ → BinOp × ℕ → List NodeTag
in_row p q =
    if nat_le p.1 q.1
    then t ∷ n ∷ t ∷ t ∷ n ∷ m (node.Binary p.0) ∷ t ∷ t ∷ n ∷ m (node.Binary q.0) ∷ t ∷ v ∷ []
    else t ∷ n ∷ t ∷ t ∷ n ∷ t ∷ t ∷ n ∷ m (node.Binary q.0) ∷ m (node.Binary p.0) ∷ t ∷ v ∷ []

two_in_row : flat_map (λ p. map (λ q. made (name ∷ token.Operator p.0 ∷ name ∷ token.Operator q.0 ∷ name
    ∷ token.Semicolon ∷ [])) operators) operators ≡ flat_map (λ p. map (in_row p) operators) operators
two_in_row = refl

-- -a+a; and *a[a]; and a?a:a?a:a; and a=a=a; and a=a?a:a|a;
others_in_row : map made ((token.Operator op.Sub ∷ name ∷ token.Operator op.Add ∷ name ∷ token.Semicolon ∷ [])
    ∷ (token.Operator op.Mul ∷ name ∷ token.OpenBracket ∷ name ∷ token.CloseBracket ∷ token.Semicolon ∷ [])
    ∷ (name ∷ token.Question ∷ name ∷ token.Colon ∷ name ∷ token.Question ∷ name ∷ token.Colon ∷ name
    ∷ token.Semicolon ∷ [])
    ∷ (name ∷ token.Assign None ∷ name ∷ token.Assign None ∷ name ∷ token.Semicolon ∷ [])
    ∷ (name ∷ token.Assign None ∷ name ∷ token.Question ∷ name ∷ token.Colon ∷ name ∷ token.Operator op.Or ∷ name
    ∷ token.Semicolon ∷ []) ∷ [])
    ≡ (t ∷ t ∷ n ∷ m node.Negate ∷ t ∷ t ∷ n ∷ m (node.Binary op.Add) ∷ t ∷ v ∷ [])
    ∷ (t ∷ t ∷ n ∷ t ∷ t ∷ n ∷ t ∷ m node.Indexed ∷ m node.Indirection ∷ t ∷ v ∷ [])
    ∷ (t ∷ n ∷ t ∷ t ∷ n ∷ t ∷ t ∷ n ∷ t ∷ t ∷ n ∷ t ∷ t ∷ n ∷ m node.Conditional ∷ m node.Conditional ∷ t ∷ v ∷ [])
    ∷ (t ∷ n ∷ t ∷ t ∷ n ∷ t ∷ t ∷ n ∷ m (node.Assigned None) ∷ m (node.Assigned None) ∷ t ∷ v ∷ [])
    ∷ (t ∷ n ∷ t ∷ t ∷ n ∷ t ∷ t ∷ n ∷ t ∷ t ∷ n ∷ t ∷ t ∷ n ∷ m (node.Binary op.Or) ∷ m node.Conditional
    ∷ m (node.Assigned None) ∷ t ∷ v ∷ []) ∷ []
others_in_row = refl

-- a;   if(a);   if(a);else;   while(a);   switch a{;}   goto a;   return(a);   return;   break;   ;
statements : map statement_nodes (Evaluate x ∷ If x Empty ∷ IfElse x Empty Empty ∷ While x Empty
    ∷ Switch x (More Nothing Empty) ∷ Goto x ∷ ReturnValue x ∷ Return ∷ Break 1 ∷ Empty ∷ [])
    ≡ (t ∷ n ∷ t ∷ m node.Evaluated ∷ []) ∷ (t ∷ t ∷ t ∷ n ∷ t ∷ m node.Tested ∷ t ∷ [])
    ∷ (t ∷ t ∷ t ∷ n ∷ t ∷ m node.Tested ∷ t ∷ t ∷ t ∷ []) ∷ (t ∷ t ∷ t ∷ n ∷ t ∷ m node.Tested ∷ t ∷ [])
    ∷ (t ∷ t ∷ n ∷ t ∷ m node.Switched ∷ t ∷ t ∷ []) ∷ (t ∷ t ∷ n ∷ t ∷ m node.Target ∷ [])
    ∷ (t ∷ t ∷ t ∷ n ∷ t ∷ m node.Returned ∷ t ∷ []) ∷ (t ∷ t ∷ []) ∷ (t ∷ t ∷ []) ∷ (t ∷ []) ∷ []
statements = refl

-- auto a 1,a;a;   extrn a;a;   a:a;   case 1:a;   default:a;   {a;;}
headings : map statement_nodes
    (Headed (Auto (record { word = a; size = Some 1 } ∷ record { word = a; size = None } ∷ [])) (Evaluate x)
    ∷ Headed (Extrn (a ∷ [])) (Evaluate x) ∷ Headed (Label a) (Evaluate x)
    ∷ Headed (Case 1 (Number 1)) (Evaluate x) ∷ Headed (Default 1) (Evaluate x)
    ∷ Compound (More (More Nothing (Evaluate x)) Empty) ∷ [])
    ≡ (t ∷ t ∷ t ∷ t ∷ t ∷ t ∷ t ∷ n ∷ t ∷ v ∷ []) ∷ (t ∷ t ∷ t ∷ t ∷ n ∷ t ∷ v ∷ []) ∷ (t ∷ t ∷ t ∷ n ∷ t ∷ v ∷ [])
    ∷ (t ∷ t ∷ t ∷ t ∷ n ∷ t ∷ v ∷ []) ∷ (t ∷ t ∷ t ∷ n ∷ t ∷ v ∷ []) ∷ (t ∷ t ∷ n ∷ t ∷ v ∷ t ∷ t ∷ []) ∷ []
headings = refl

-- a 1;   a[];   a(a)a;
definitions : program_nodes (Simple a (Ival_constant (Number 1) ∷ []) ∷ Vector a None []
    ∷ Function a (a ∷ []) (Evaluate x) ∷ [])
    ≡ (t ∷ t ∷ t ∷ []) ++ (t ∷ t ∷ t ∷ t ∷ []) ++ (t ∷ t ∷ t ∷ t ∷ t ∷ n ∷ t ∷ v ∷ [])
definitions = refl

-- )   a]   a a   a+   a(){a+a
of_no_program : (map made ((token.CloseParen ∷ []) ∷ (name ∷ token.CloseBracket ∷ []) ∷ (name ∷ name ∷ [])
    ∷ (name ∷ token.Operator op.Add ∷ []) ∷ [])
    ≡ (t ∷ m node.Called ∷ []) ∷ (t ∷ n ∷ t ∷ m node.Indexed ∷ []) ∷ (t ∷ n ∷ t ∷ []) ∷ (t ∷ n ∷ t ∷ []) ∷ [])
    × (node_run stage.Over [] (map lexeme_of (name ∷ token.OpenParen ∷ token.CloseParen ∷ token.OpenBrace ∷ name
    ∷ token.Operator op.Add ∷ name ∷ []))
    ≡ t ∷ t ∷ t ∷ t ∷ t ∷ n ∷ t ∷ t ∷ n ∷ [])
of_no_program = (refl, refl)
