-- Promise: the branches of a source, one after another, each after its parts.
use Rattle.std.specs.Prelude.{ℕ, zero, suc, ◌+◌, ◌-◌, Bool, true, false, ◌||◌, if◌then◌else◌, nat_lt, List, [], ◌∷◌}
use Rattle.std.specs.Prelude.{◌≡◌, ◌++◌, length, map, Option, None, Some, slice_get}
use Rattle.blang.specs.Trees.{Definition, bare}
use Rattle.blang.specs.Walk.{spell_all}
use Rattle.blang.specs.WellFormed.{AllFormed}
use Rattle.blex.specs.Lexemes.{lexeme_of}
use Rattle.blex.specs.declared.lexeme.Lexeme.{Lexeme}
use Rattle.blex.specs.declared.lexeme.Lexeme.TheVariants as lexeme
use Rattle.btree.specs.declared.nodes.Node.{Node}
use Rattle.btree.specs.declared.nodes.Node.TheVariants as node
use Rattle.btree.specs.declared.nodes.NodeTag.{NodeTag}
use Rattle.btree.specs.declared.nodes.NodeTag.TheVariants as made_of
use Rattle.btree.specs.declared.tags.Construct.{Construct}
use Rattle.btree.specs.declared.tags.Construct.TheVariants as construct
use Rattle.btree.specs.declared.tags.Tag.{Tag}
use Rattle.btree.specs.declared.tags.Tag.TheVariants as tag
use Rattle.btree.specs.Nodes.{program_nodes}
use Rattle.btree.specs.Tags.{program_tags}
use Rattle.bmatch.specs.declared.growing.Growing.{Growing}
use Rattle.bmatch.specs.declared.growing.Open.{Open}
use Rattle.bmatch.specs.declared.growing.Parts.{Parts}
use Rattle.bmatch.specs.declared.growing.Parts.TheVariants as parts
use Rattle.bmatch.specs.declared.tree.Branch.{Branch}
use Rattle.bmatch.specs.declared.tree.Kind.TheVariants as kind
use Rattle.bmatch.specs.Trees.{branch_at, lexeme_at}

-- so many nodes, tags and tokens were passed, this isn't over yet, the innermost first, and these branches are there
pub record Growth : Type 0 where
  pub made : ℕ
  pub tagged : ℕ
  pub place : ℕ
  pub opens : List Open
  pub rows : List Branch

abbrev pub growth_of : Growing → Growth
growth_of it =
    record { made = it.made; tagged = it.tagged; place = it.place; opens = it.opens; rows = it.rows.items }

abbrev pub with_row : Branch → Growth → Growth
with_row b g = record g { rows = g.rows ++ b ∷ [] }

-- in how many loops and switches what comes now is
abbrev pub loops_in : List Open → ℕ
loops_in [] = 0
loops_in (o ∷ opens) = o.loops

abbrev pub loops_with : Construct → (around : ℕ) → ℕ
loops_with construct.While around = if nat_lt around 65535 then around + 1 else around
loops_with construct.Switch around = if nat_lt around 65535 then around + 1 else around
loops_with _ around = around

abbrev pub with_open : Construct → (token : ℕ) → Growth → Growth
with_open c token g =
    record g {
      opens = record {
        construct = c;
        token = token;
        begin = length g.rows;
        loops = loops_with c (loops_in g.opens);
      } ∷ g.opens;
    }

-- a branch that is one token, after so many branches
abbrev pub leaf : Node → (token index loops : ℕ) → Branch
leaf n token index loops =
    record {
      kind = kind.Node n;
      token = token;
      first = token;
      last = token;
      begin = index;
      core = index;
      acts = false;
      loops = loops;
    }

abbrev pub parts_of : Node → Parts
parts_of node.Name = parts.None
parts_of node.Constant = parts.None
parts_of node.Text = parts.None
parts_of node.Indexed = parts.Two
parts_of (node.Binary o) = parts.Two
parts_of (node.Assigned o) = parts.Two
parts_of node.Conditional = parts.Three
parts_of _ = parts.One

-- how many tokens stand before the only part: the keyword and a parenthesis, nothing, or one
abbrev pub tokens_before : Node → ℕ
tokens_before node.Tested = 2
tokens_before node.Returned = 2
tokens_before node.PostIncrement = 0
tokens_before node.PostDecrement = 0
tokens_before node.Evaluated = 0
tokens_before _ = 1

-- the token that makes a node with one part: ++ or -- after it, the ; of a statement, or the first one
abbrev pub token_of : Node → (first last : ℕ) → ℕ
token_of node.PostIncrement first last = last
token_of node.PostDecrement first last = last
token_of node.Evaluated first last = last
token_of n first last = first - tokens_before n

abbrev pub core_of : Node → (inner index : ℕ) → ℕ
core_of node.Grouped inner index = inner
core_of _ inner index = index

abbrev pub acts_by : Node → Bool
acts_by (node.Assigned o) = true
acts_by node.PostIncrement = true
acts_by node.PostDecrement = true
acts_by node.PreIncrement = true
acts_by node.PreDecrement = true
acts_by _ = false

abbrev pub one_part : Node → (last index loops : ℕ) → (right : Branch) → Branch
one_part n last index loops right =
    record {
      kind = kind.Node n;
      token = token_of n right.first last;
      first = right.first - tokens_before n;
      last = last;
      begin = right.begin;
      core = core_of n right.core index;
      acts = acts_by n || right.acts;
      loops = loops;
    }

abbrev pub two_parts : Node → (last index loops : ℕ) → (left right : Branch) → Branch
two_parts n last index loops left right =
    record {
      kind = kind.Node n;
      token = right.first - 1;
      first = left.first;
      last = last;
      begin = left.begin;
      core = index;
      acts = acts_by n || (left.acts || right.acts);
      loops = loops;
    }

abbrev pub three_parts : Node → (last index loops : ℕ) → (left middle right : Branch) → Branch
three_parts n last index loops left middle right =
    record {
      kind = kind.Node n;
      token = middle.first - 1;
      first = left.first;
      last = last;
      begin = left.begin;
      core = index;
      acts = left.acts || (middle.acts || right.acts);
      loops = loops;
    }

abbrev pub by_parts : Parts → Node → (last index loops : ℕ) → (left middle right : Branch) → Branch
by_parts parts.None n last index loops left middle right = leaf n last index loops
by_parts parts.One n last index loops left middle right = one_part n last index loops right
by_parts parts.Two n last index loops left middle right = two_parts n last index loops middle right
by_parts parts.Three n last index loops left middle right = three_parts n last index loops left middle right

-- a node whose parts are the last of these branches, after so many tokens
abbrev pub branch_of : Node → (place : ℕ) → List Branch → (loops : ℕ) → Branch
branch_of n place rows loops =
    let right = branch_at rows (length rows - 1) in
    let middle = branch_at rows (right.begin - 1) in
    by_parts (parts_of n) n (place - 1) (length rows) loops (branch_at rows (middle.begin - 1)) middle right

abbrev pub call_branch : Open → (place loops : ℕ) → List Branch → Branch
call_branch o place loops rows =
    let callee = branch_at rows (o.begin - 1) in
    record {
      kind = kind.Node node.Called;
      token = o.token;
      first = callee.first;
      last = place - 1;
      begin = callee.begin;
      core = length rows;
      acts = true;
      loops = loops;
    }

-- The arguments of a call stand after what is called, and after those of which there are none yet.
abbrev pub called_by : List Open → Growth → Growth
called_by [] g = g
called_by (o ∷ opens) g = with_row (call_branch o g.place (loops_in opens) g.rows) (record g { opens = opens })

abbrev pub called : Growth → Growth
called g = called_by g.opens g

abbrev pub made : Node → Growth → Growth
made node.Argument g = g
made node.Switched g = g
made node.NoArguments g =
    with_row (leaf node.NoArguments (g.place - 1) (length g.rows) (loops_in g.opens))
    (with_open construct.Parens (g.place - 1) g)
made node.Called g = called g
made n g = with_row (branch_of n g.place g.rows (loops_in g.opens)) g

abbrev pub construct_branch : Open → (place index loops : ℕ) → Branch
construct_branch o place index loops =
    record {
      kind = kind.Construct o.construct;
      token = o.token;
      first = o.token;
      last = place - 1;
      begin = o.begin;
      core = index;
      acts = false;
      loops = loops;
    }

abbrev pub closed_by : List Open → Growth → Growth
closed_by [] g = g
closed_by (o ∷ opens) g = with_row (construct_branch o g.place (length g.rows) (loops_in opens)) (record g { opens = opens })

-- the innermost construct is over
abbrev pub closed : Growth → Growth
closed g = closed_by g.opens g

abbrev pub is_heading : Construct → Bool
is_heading construct.Heading = true
is_heading construct.Definition = true
is_heading _ = false

-- the innermost is a heading, or a definition whose statements haven't begun
abbrev pub is_in_heading : List Open → Bool
is_in_heading [] = false
is_in_heading (o ∷ opens) = is_heading o.construct

-- the node that a token of a heading is, if it is one
abbrev pub leaf_node : Lexeme → Option Node
leaf_node (lexeme.Name x) = Some node.Name
leaf_node (lexeme.Number n) = Some node.Constant
leaf_node (lexeme.Character n) = Some node.Constant
leaf_node lexeme.String = Some node.Text
leaf_node _ = None

abbrev pub with_leaf : Option Node → (token : ℕ) → Growth → Growth
with_leaf None token g = g
with_leaf (Some n) token g = with_row (leaf n token (length g.rows) (loops_in g.opens)) g

-- A token was passed. A name or a constant of a heading is a branch.
abbrev pub passed : List Lexeme → Growth → Growth
passed lexemes g =
    let next = record g { place = g.place + 1 } in
    if is_in_heading g.opens then with_leaf (leaf_node (lexeme_at lexemes g.place)) g.place next else next

abbrev pub tag_step : List Lexeme → (nodes : ℕ) → Option Tag → Growth → Growth
tag_step lexemes nodes None g = g
tag_step lexemes nodes (Some (tag.Begins c)) g = with_open c g.place (record g { tagged = g.tagged + 1 })
tag_step lexemes nodes (Some tag.Ends) g = closed (record g { tagged = g.tagged + 1 })
tag_step lexemes nodes (Some tag.Token) g =
    passed lexemes (record g { tagged = g.tagged + 1; made = if nat_lt g.made nodes then g.made + 1 else g.made })

abbrev pub step_at : List Lexeme → (nodes : ℕ) → Option NodeTag → Option Tag → Growth → Growth
step_at lexemes nodes (Some (made_of.Made n)) t g = made n (record g { made = g.made + 1 })
step_at lexemes nodes _ t g = tag_step lexemes nodes t g

-- a node, or else a tag; a token stands in both rows
abbrev pub step : List Lexeme → List NodeTag → List Tag → Growth → Growth
step lexemes nodes tags g =
    step_at lexemes (length nodes) (slice_get nodes g.made) (slice_get tags g.tagged) g

abbrev pub nothing_grown : Growth
nothing_grown = record { made = 0; tagged = 0; place = 0; opens = []; rows = [] }

abbrev pub steps : List Lexeme → List NodeTag → List Tag → (count : ℕ) → Growth
steps lexemes nodes tags zero = nothing_grown
steps lexemes nodes tags (suc count) = step lexemes nodes tags (steps lexemes nodes tags count)

abbrev pub rows_by : List Lexeme → List NodeTag → List Tag → List Branch
rows_by lexemes nodes tags = (steps lexemes nodes tags (length nodes + length tags)).rows

abbrev pub lexemes_of : List Definition → List Lexeme
lexemes_of ds = map lexeme_of (map bare (spell_all ds))

-- the branches of a program
abbrev pub program_rows : List Definition → List Branch
program_rows ds = rows_by (lexemes_of ds) (program_nodes ds) (program_tags ds)

-- Where tokens are those of a program, these are its branches.
abbrev pub AreRows : List Lexeme → List Branch → Type 0
AreRows lexemes rows = (ds : List Definition) → AllFormed ds → lexemes ≡ lexemes_of ds → rows ≡ program_rows ds
