-- Promise: the nodes of a program's expressions in a row: a token, or a node after its parts.
use Rattle.std.specs.Prelude.{List, [], ◌∷◌, ◌++◌}
use Rattle.blang.specs.Trees.{Expr, Named, Literal, Text, Grouped, Indexed, Called, Postfixed, Prefixed, Binary}
use Rattle.blang.specs.Trees.{Conditional, Assigned, Arguments, No_arguments, Another, PrefixOp, Negate, Not}
use Rattle.blang.specs.Trees.{Indirection, Address, PreIncrement, PreDecrement, PostfixOp, PostIncrement}
use Rattle.blang.specs.Trees.{PostDecrement, Stmt, Headed, Compound, If, IfElse, While, Switch, Goto, ReturnValue}
use Rattle.blang.specs.Trees.{Evaluate, Stmts, Nothing, More, Definition, Function}
use Rattle.blang.specs.Walk.{Walk, Said, TextHere, Level, ◌▸◌, comma_before_next, walk_heading, walk_statement}
use Rattle.blang.specs.Walk.{walk_definition}
use Rattle.btree.specs.declared.nodes.Node.{Node}
use Rattle.btree.specs.declared.nodes.Node.TheVariants as node
use Rattle.btree.specs.declared.nodes.NodeTag.{NodeTag}
use Rattle.btree.specs.declared.nodes.NodeTag.TheVariants as tag
use Rattle.btree.specs.Tags.{walk_parameters}

-- a tag for each token, where no expression stands
abbrev pub blank : Walk → List NodeTag
blank (Said p) = tag.Token ∷ []
blank (TextHere t) = tag.Token ∷ []
blank (Level opening inside after) = tag.Token ∷ blank inside
blank (v ▸ w) = blank v ++ blank w
blank _ = []

abbrev pub prefix_node : PrefixOp → Node
prefix_node Negate = node.Negate
prefix_node Not = node.Not
prefix_node Indirection = node.Indirection
prefix_node Address = node.Address
prefix_node PreIncrement = node.PreIncrement
prefix_node PreDecrement = node.PreDecrement

abbrev pub postfix_node : PostfixOp → Node
postfix_node PostIncrement = node.PostIncrement
postfix_node PostDecrement = node.PostDecrement

-- a token that is a node by itself, or with which a node ends
abbrev pub ending : Node → List NodeTag
ending n = tag.Token ∷ tag.Made n ∷ []

-- a token, and a part after it with which a node ends
abbrev pub joined : List NodeTag → Node → List NodeTag
joined tags n = tag.Token ∷ (tags ++ tag.Made n ∷ [])

-- what stands between a token and one with which a node ends
abbrev pub between : List NodeTag → Node → List NodeTag
between tags n = tag.Token ∷ (tags ++ ending n)

abbrev mutual
  pub nodes : Expr → List NodeTag
  nodes (Named w) = ending node.Name
  nodes (Literal c) = ending node.Constant
  nodes (Text bytes offset) = ending node.Text
  nodes (Grouped e) = between (nodes e) node.Grouped
  nodes (Indexed e f) = nodes e ++ between (nodes f) node.Indexed
  nodes (Called e args) = nodes e ++ between (tag.Made node.NoArguments ∷ argument_nodes args) node.Called
  nodes (Postfixed op line e) = nodes e ++ ending (postfix_node op)
  nodes (Prefixed op line e) = joined (nodes e) (prefix_node op)
  nodes (Binary op line e f) = nodes e ++ joined (nodes f) (node.Binary op)
  nodes (Conditional e f g) = nodes e ++ tag.Token ∷ (nodes f ++ joined (nodes g) node.Conditional)
  nodes (Assigned op line e f) = nodes e ++ joined (nodes f) (node.Assigned op)

  pub argument_nodes : Arguments → List NodeTag
  argument_nodes No_arguments = []
  argument_nodes (Another before e) =
      (argument_nodes before ++ (blank (comma_before_next before) ++ nodes e)) ++ tag.Made node.Argument ∷ []

-- a condition in its parentheses
abbrev pub condition_nodes : Expr → List NodeTag
condition_nodes e = between (nodes e) node.Tested

abbrev mutual
  pub statement_nodes : Stmt → List NodeTag
  statement_nodes (Headed h s) = blank (walk_heading h) ++ statement_nodes s
  statement_nodes (Compound body) = tag.Token ∷ (body_nodes body ++ tag.Token ∷ [])
  statement_nodes (If e s) = tag.Token ∷ (condition_nodes e ++ statement_nodes s)
  statement_nodes (IfElse e s other) =
      tag.Token ∷ (condition_nodes e ++ (statement_nodes s ++ tag.Token ∷ statement_nodes other))
  statement_nodes (While e s) = tag.Token ∷ (condition_nodes e ++ statement_nodes s)
  statement_nodes (Switch e body) = between (nodes e) node.Switched ++ (body_nodes body ++ tag.Token ∷ [])
  statement_nodes (Goto e) = between (nodes e) node.Target
  statement_nodes (ReturnValue e) = tag.Token ∷ (between (nodes e) node.Returned ++ tag.Token ∷ [])
  statement_nodes (Evaluate e) = nodes e ++ ending node.Evaluated
  statement_nodes s = blank (walk_statement s)

  pub body_nodes : Stmts → List NodeTag
  body_nodes Nothing = []
  body_nodes (More before s) = body_nodes before ++ statement_nodes s

abbrev pub definition_nodes : Definition → List NodeTag
definition_nodes (Function w parameters body) = tag.Token ∷ (blank (walk_parameters parameters) ++ statement_nodes body)
definition_nodes d = blank (walk_definition d)

abbrev pub program_nodes : List Definition → List NodeTag
program_nodes [] = []
program_nodes (d ∷ ds) = definition_nodes d ++ program_nodes ds
