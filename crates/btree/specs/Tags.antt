-- Promise: the constructs of a program in a row of tags: a construct begins, a token, the innermost one ends.
use Rattle.std.specs.Prelude.{List, [], ◌∷◌, ◌++◌}
use Rattle.blang.specs.Trees.{Stmt, Headed, Compound, If, IfElse, While, Switch, Stmts, Nothing, More, Identifier}
use Rattle.blang.specs.Trees.{Definition, Function}
use Rattle.blang.specs.declared.token.Token.TheVariants as token
use Rattle.blang.specs.Walk.{Walk, Said, TextHere, Level, ◌▸◌, plain, walk, walk_heading, walk_parenthesized}
use Rattle.blang.specs.Walk.{walk_statement, walk_list, walk_parameter, walk_definition}
use Rattle.btree.specs.declared.tags.Tag.{Tag}
use Rattle.btree.specs.declared.tags.Tag.TheVariants as tag
use Rattle.btree.specs.declared.tags.Construct.{Construct}
use Rattle.btree.specs.declared.tags.Construct.TheVariants as construct

-- a tag for each token
abbrev pub tokens : Walk → List Tag
tokens (Said p) = tag.Token ∷ []
tokens (TextHere t) = tag.Token ∷ []
tokens (Level opening inside after) = tag.Token ∷ tokens inside
tokens (v ▸ w) = tokens v ++ tokens w
tokens _ = []

-- what stands in a construct, and its two tags
abbrev pub within : Construct → List Tag → List Tag
within c tags = tag.Begins c ∷ (tags ++ tag.Ends ∷ [])

-- what stands in braces
abbrev pub in_braces : List Tag → List Tag
in_braces tags = within construct.Block (tag.Token ∷ (tags ++ tag.Token ∷ []))

abbrev mutual
  pub statement_tags : Stmt → List Tag
  statement_tags (Headed h s) = within construct.Heading (tokens (walk_heading h)) ++ statement_tags s
  statement_tags (Compound body) = in_braces (body_tags body)
  statement_tags (If e s) =
      within construct.If (tag.Token ∷ tokens (walk_parenthesized e) ++ statement_tags s)
  statement_tags (IfElse e s other) =
      within construct.If
      (tag.Token ∷ tokens (walk_parenthesized e) ++ (statement_tags s ++ tag.Token ∷ statement_tags other))
  statement_tags (While e s) =
      within construct.While (tag.Token ∷ tokens (walk_parenthesized e) ++ statement_tags s)
  statement_tags (Switch e body) = within construct.Switch (tag.Token ∷ tokens (walk e) ++ in_braces (body_tags body))
  statement_tags s = within construct.Plain (tokens (walk_statement s))

  pub body_tags : Stmts → List Tag
  body_tags Nothing = []
  body_tags (More before s) = body_tags before ++ statement_tags s

-- the parameters of a function in their parentheses
abbrev pub walk_parameters : List Identifier → Walk
walk_parameters parameters = plain token.OpenParen ▸ walk_list walk_parameter parameters ▸ plain token.CloseParen

abbrev pub definition_tags : Definition → List Tag
definition_tags (Function w parameters body) =
    within construct.Definition (tag.Token ∷ tokens (walk_parameters parameters) ++ statement_tags body)
definition_tags d = within construct.Definition (tokens (walk_definition d))

abbrev pub program_tags : List Definition → List Tag
program_tags [] = []
program_tags (d ∷ ds) = definition_tags d ++ program_tags ds
