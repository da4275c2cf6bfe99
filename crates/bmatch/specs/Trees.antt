-- Promise: the branches of a tree, and the tokens of it. Each has a number, from 0.
use Rattle.std.specs.Prelude.{ℕ, ◌+◌, List, None, Some, false, slice_get, unwrap_or}
use Rattle.bword.specs.declared.operators.BinOp.{BinOp}
use Rattle.bword.specs.declared.operators.BinOp.TheVariants as op
use Rattle.blex.specs.declared.lexeme.Lexeme.{Lexeme}
use Rattle.blex.specs.declared.lexeme.Lexeme.TheVariants as lexeme
use Rattle.btree.specs.declared.nodes.Node.TheVariants as node
use Rattle.btree.specs.declared.tags.Construct.TheVariants as construct
use Rattle.bmatch.specs.declared.tree.Branch.{Branch}
use Rattle.bmatch.specs.declared.tree.Kind.{Kind}
use Rattle.bmatch.specs.declared.tree.Kind.TheVariants as kind

abbrev pub lexeme_at : List Lexeme → (token : ℕ) → Lexeme
lexeme_at lexemes token = unwrap_or (slice_get lexemes token) lexeme.End

abbrev pub no_branch : Branch
no_branch =
    record {
      kind = kind.Node node.NoArguments;
      token = 0;
      first = 0;
      last = 0;
      begin = 0;
      core = 0;
      acts = false;
      loops = 0;
    }

abbrev pub branch_at : List Branch → (index : ℕ) → Branch
branch_at rows index = unwrap_or (slice_get rows index) no_branch

abbrev pub operator_number : BinOp → ℕ
operator_number op.Or = 0
operator_number op.And = 1
operator_number op.Eq = 2
operator_number op.Ne = 3
operator_number op.Lt = 4
operator_number op.Le = 5
operator_number op.Gt = 6
operator_number op.Ge = 7
operator_number op.Shl = 8
operator_number op.Shr = 9
operator_number op.Sub = 10
operator_number op.Add = 11
operator_number op.Rem = 12
operator_number op.Mul = 13
operator_number op.Div = 14

-- a number for each kind
abbrev pub kind_number : Kind → ℕ
kind_number (kind.Node node.Name) = 0
kind_number (kind.Node node.Constant) = 1
kind_number (kind.Node node.Text) = 2
kind_number (kind.Node node.Grouped) = 3
kind_number (kind.Node node.Indexed) = 4
kind_number (kind.Node node.NoArguments) = 5
kind_number (kind.Node node.Argument) = 6
kind_number (kind.Node node.Called) = 7
kind_number (kind.Node node.PostIncrement) = 8
kind_number (kind.Node node.PostDecrement) = 9
kind_number (kind.Node node.Negate) = 10
kind_number (kind.Node node.Not) = 11
kind_number (kind.Node node.Indirection) = 12
kind_number (kind.Node node.Address) = 13
kind_number (kind.Node node.PreIncrement) = 14
kind_number (kind.Node node.PreDecrement) = 15
kind_number (kind.Node node.Conditional) = 16
kind_number (kind.Node node.Evaluated) = 17
kind_number (kind.Node node.Tested) = 18
kind_number (kind.Node node.Switched) = 19
kind_number (kind.Node node.Returned) = 20
kind_number (kind.Node node.Target) = 21
kind_number (kind.Node (node.Assigned None)) = 22
kind_number (kind.Node (node.Binary o)) = 25 + operator_number o
kind_number (kind.Node (node.Assigned (Some o))) = 40 + operator_number o
kind_number (kind.Construct construct.Definition) = 60
kind_number (kind.Construct construct.Block) = 61
kind_number (kind.Construct construct.If) = 62
kind_number (kind.Construct construct.IfElse) = 63
kind_number (kind.Construct construct.While) = 64
kind_number (kind.Construct construct.Switch) = 65
kind_number (kind.Construct construct.Heading) = 66
kind_number (kind.Construct construct.Plain) = 67
kind_number (kind.Construct construct.Parens) = 68
