-- Closed facts: kinds, the branches of a small program, and what fits there.
use Rattle.std.specs.Prelude.{◌≡◌, ℕ, ◌-◌, ◌==◌, codes, true, false, Bool, List, [], ◌∷◌, ◌++◌, None, Option, Some, map, refl}
use Rattle.std.specs.Prelude.{length, option_map, replicate}
use Rattle.std.specs.List.{flat_map, range_with_len}
use Rattle.bword.specs.declared.operators.BinOp.{BinOp}
use Rattle.bword.specs.declared.operators.BinOp.TheVariants as op
use Rattle.blang.specs.declared.token.Keyword.TheVariants as keyword
use Rattle.blang.specs.Trees.{Another, Assigned, Binary, Called, Compound, Definition, Evaluate, Expr}
use Rattle.blang.specs.Trees.{Function, Grouped, Identifier, Literal, More, Named, No_arguments, Nothing, Number}
use Rattle.blang.specs.Trees.{While}
use Rattle.blex.specs.declared.lexeme.Lexeme.TheVariants as lexeme
use Rattle.btree.specs.declared.nodes.Node.{Node}
use Rattle.btree.specs.declared.nodes.Node.TheVariants as node
use Rattle.btree.specs.declared.tags.Construct.{Construct}
use Rattle.btree.specs.declared.tags.Construct.TheVariants as construct
use Rattle.bmatch.specs.declared.binds.Binds.{Binds}
use Rattle.bmatch.specs.declared.conditions.Claim.{Claim}
use Rattle.bmatch.specs.declared.conditions.Claim.TheVariants as claim
use Rattle.bmatch.specs.declared.conditions.Measure.TheVariants as measure
use Rattle.bmatch.specs.declared.counting.TheConstants.{MOST_COUNTED}
use Rattle.bmatch.specs.declared.conditions.Relation.TheVariants as relation
use Rattle.bmatch.specs.declared.conditions.Scope.{Scope}
use Rattle.bmatch.specs.declared.conditions.Scope.TheVariants as scope
use Rattle.bmatch.specs.declared.conditions.Test.{Test}
use Rattle.bmatch.specs.declared.conditions.Test.TheVariants as test
use Rattle.bmatch.specs.declared.fits.Sight.{Sight}
use Rattle.bmatch.specs.declared.fits.TheConstants.{MOST_PASSED}
use Rattle.bmatch.specs.declared.holds.Site.{Site}
use Rattle.bmatch.specs.declared.noticing.Notice.{Notice}
use Rattle.bmatch.specs.declared.noticing.TheConstants.{MOST_BRANCHES, MOST_IN_ALL}
use Rattle.bmatch.specs.declared.pattern.Leaf.TheVariants as leaf
use Rattle.bmatch.specs.declared.pattern.Sort.{Sort}
use Rattle.bmatch.specs.declared.pattern.Sort.TheVariants as sort
use Rattle.bmatch.specs.declared.pattern.Rule.{Rule}
use Rattle.bmatch.specs.declared.pattern.RuleTable.{RuleTable}
use Rattle.bmatch.specs.declared.pattern.Spot.TheVariants as spot
use Rattle.bmatch.specs.declared.pattern.Step.{Step}
use Rattle.bmatch.specs.declared.pattern.Step.TheVariants as step
use Rattle.bmatch.specs.declared.pattern.TheConstants.{MOST_HOLES, NO_HOLE, ROOT}
use Rattle.bmatch.specs.declared.pattern.Word.TheVariants as word
use Rattle.bmatch.specs.declared.tree.Branch.{Branch}
use Rattle.bmatch.specs.declared.tree.Kind.{Kind}
use Rattle.bmatch.specs.declared.tree.Kind.TheVariants as kind
use Rattle.bmatch.specs.declared.tree.TokenPlace.{TokenPlace}
use Rattle.bmatch.specs.declared.tree.Tree.{Tree}
use Rattle.bmatch.specs.Asking.{are_joined, begins_with, compares, compares_both, follows, has_c_escape, measure_of}
use Rattle.bmatch.specs.Asking.{begins_definition, branches_up_to, comes_before, first_constant, is_dropped, is_inside}
use Rattle.bmatch.specs.Asking.{is_negative, is_no_end, letters_of, passes_test, product_of, remainder_of, rest_of}
use Rattle.bmatch.specs.Asking.{sign_number, size_by, size_declared, size_defined, size_in, sum_of}
use Rattle.bmatch.specs.Binds.{hole_of, nothing_bound, with_hole, with_told}
use Rattle.bmatch.specs.Changes.{change_before, changed_by}
use Rattle.bmatch.specs.Counting.{blanks_at}
use Rattle.bmatch.specs.Fits.{ends_of, is_word, kind_within, may_begin, mirrored, negated, span_of}
use Rattle.bmatch.specs.Growing.{lexemes_of, program_rows}
use Rattle.bmatch.specs.Holds.{fits_at, holds_in, is_within, loop_around, scope_span}
use Rattle.bmatch.specs.Notices.{first_token, notices_by}
use Rattle.bmatch.specs.Same.{is_same}
use Rattle.bmatch.specs.Trees.{kind_number}

abbrev operators : List BinOp
operators =
    op.Or ∷ op.And ∷ op.Eq ∷ op.Ne ∷ op.Lt ∷ op.Le ∷ op.Gt ∷ op.Ge ∷ op.Shl ∷ op.Shr ∷ op.Sub ∷ op.Add ∷ op.Rem ∷ op.Mul
    ∷ op.Div ∷ []

abbrev plain_nodes : List Node
plain_nodes =
    node.Name ∷ node.Constant ∷ node.Text ∷ node.Grouped ∷ node.Indexed ∷ node.NoArguments ∷ node.Argument ∷ node.Called
    ∷ node.PostIncrement ∷ node.PostDecrement ∷ node.Negate ∷ node.Not ∷ node.Indirection ∷ node.Address
    ∷ node.PreIncrement ∷ node.PreDecrement ∷ node.Conditional ∷ node.Evaluated ∷ node.Tested ∷ node.Switched
    ∷ node.Returned ∷ node.Target ∷ node.Assigned None ∷ []

abbrev constructs : List Construct
constructs =
    construct.Definition ∷ construct.Block ∷ construct.If ∷ construct.IfElse ∷ construct.While ∷ construct.Switch
    ∷ construct.Heading ∷ construct.Plain ∷ construct.Parens ∷ []

-- no two kinds have one number
numbers_of_kinds :
    map (λ n. kind_number (kind.Node n)) (plain_nodes ++ map node.Binary operators
    ++ map (λ o. node.Assigned (Some o)) operators) ++ map (λ c. kind_number (kind.Construct c)) constructs
    ≡ range_with_len 0 23 ++ range_with_len 25 30 ++ range_with_len 60 9
numbers_of_kinds = refl

abbrev name : List ℕ → Identifier
name text = record { text = text; line = 1 }

abbrev x : Expr
x = Named (name (codes "x"))

abbrev one : Expr
one = Literal (Number 1)

-- f(x){while(x)f((x),1);x=x+1;}
abbrev small : List Definition
small =
    Function (name (codes "f")) (name (codes "x") ∷ []) (Compound (More (More Nothing
    (While x (Evaluate (Called (Named (name (codes "f"))) (Another (Another No_arguments (Grouped x)) one)))))
    (Evaluate (Assigned None 1 x (Binary op.Add 1 x one))))) ∷ []

abbrev rows : List Branch
rows = program_rows small

abbrev Numbers : Type 0
Numbers = ℕ × ℕ × ℕ × ℕ × ℕ × ℕ × Bool × ℕ

abbrev shown : Branch → Numbers
shown b = (kind_number b.kind, b.token, b.first, b.last, b.begin, b.core, b.acts, b.loops)

-- f x, the condition x of the loop, f and ( with (x) and 1, the call and its statement, and so on up to the definition
branches_of_small : map shown rows
    ≡ (0, 0, 0, 0, 0, 0, false, 0) ∷ (0, 2, 2, 2, 1, 1, false, 0) ∷ (0, 7, 7, 7, 2, 2, false, 1)
    ∷ (18, 5, 5, 8, 2, 3, false, 1) ∷ (0, 9, 9, 9, 4, 4, false, 1) ∷ (5, 10, 10, 10, 5, 5, false, 1)
    ∷ (0, 12, 12, 12, 6, 6, false, 1) ∷ (3, 11, 11, 13, 6, 6, false, 1) ∷ (1, 15, 15, 15, 8, 8, false, 1)
    ∷ (7, 10, 9, 16, 4, 9, true, 1) ∷ (17, 17, 9, 17, 4, 10, true, 1) ∷ (67, 9, 9, 17, 4, 11, false, 1)
    ∷ (64, 5, 5, 17, 2, 12, false, 0) ∷ (0, 18, 18, 18, 13, 13, false, 0) ∷ (0, 20, 20, 20, 14, 14, false, 0)
    ∷ (1, 22, 22, 22, 15, 15, false, 0) ∷ (36, 21, 20, 22, 14, 16, false, 0) ∷ (22, 19, 18, 22, 13, 17, true, 0)
    ∷ (17, 23, 18, 23, 13, 18, true, 0) ∷ (67, 18, 18, 23, 13, 19, false, 0) ∷ (61, 4, 4, 24, 2, 20, false, 0)
    ∷ (60, 0, 0, 24, 0, 21, false, 0) ∷ []
branches_of_small = refl

abbrev tree : Tree
tree =
    record {
      text = record { ref_ptr = (0, 0); now = [] };
      lexemes = record { ref_ptr = (0, 0); now = lexemes_of small };
      places = record { ref_ptr = (0, 0); now = [] };
      rows = record { ref_ptr = (0, 0); now = rows };
    }

abbrev sight_of_steps : List Step → (loose : Bool) → Sight
sight_of_steps is loose =
    record { tree = tree; steps = record { ref_ptr = (0, 0); now = is }; is_loose = loose }

abbrev sight : (loose : Bool) → Sight
sight loose = sight_of_steps [] loose

abbrev site : Site
site = record { sight = sight true; function = span_of 0 22 }

abbrev hole : ℕ → Sort → Step
hole h s = step.Leaf (leaf.Hole h s)

-- what two holes stand for, and what is told, of each way
abbrev ways : List Binds → List (Option ℕ × Option ℕ × Option ℕ)
ways bs = map (λ b. (hole_of b 0, hole_of b 1, b.told)) bs

abbrev at : (loose : Bool) → List Step → (index : ℕ) → List (Option ℕ × Option ℕ × Option ℕ)
at loose is index = ways (fits_at (sight loose) is index nothing_bound)

abbrev told_first : Step
told_first = step.Told spot.First

abbrev told_maker : Step
told_maker = step.Told spot.Maker

abbrev binary : BinOp → Step
binary o = step.Tree (kind.Node (node.Binary o))

-- $0 + $1, with the operator told, at each branch: at x + 1 alone
abbrev sum : List Step
sum = binary op.Add ∷ told_maker ∷ hole 1 sort.Any ∷ hole 0 sort.Any ∷ step.Done ∷ step.Done ∷ []

sum_fits : flat_map (at true sum) (range_with_len 0 22) ≡ (Some 14, Some 15, Some 21) ∷ []
sum_fits = refl

-- $0 + $0 and $0 - $1 fit nothing; $0 + 1 and $0 + 2
same_fits : map (λ (is : List Step). at true is 16)
    ((binary op.Add ∷ hole 0 sort.Any ∷ hole 0 sort.Any ∷ step.Done ∷ step.Done ∷ [])
    ∷ (binary op.Sub ∷ hole 1 sort.Any ∷ hole 0 sort.Any ∷ step.Done ∷ step.Done ∷ [])
    ∷ (binary op.Add ∷ told_first ∷ step.Leaf (leaf.Value 1) ∷ hole 0 sort.Name ∷ step.Done ∷ step.Done ∷ [])
    ∷ (binary op.Add ∷ told_first ∷ step.Leaf (leaf.Value 2) ∷ hole 0 sort.Name ∷ step.Done ∷ step.Done ∷ []) ∷ [])
    ≡ [] ∷ [] ∷ ((Some 14, None, Some 22) ∷ []) ∷ [] ∷ []
same_fits = refl

-- a range of kinds with +, the operator told: + alone, one that begins with it, one that ends with it, one around it; and
-- those that end before it, begin after it, or end before they begin
abbrev in_range : (first last : BinOp) → List Step
in_range first last = step.Range (kind.Node (node.Binary first)) (kind.Node (node.Binary last)) ∷ told_maker
    ∷ hole 1 sort.Any ∷ hole 0 sort.Any ∷ step.Done ∷ step.Done ∷ []

ranges_fit : map (λ (pair : BinOp × BinOp). at true (in_range pair.0 pair.1) 16)
    ((op.Add, op.Add) ∷ (op.Add, op.Rem) ∷ (op.Sub, op.Add) ∷ (op.Sub, op.Rem) ∷ (op.Shr, op.Sub) ∷ (op.Rem, op.Div)
    ∷ (op.Rem, op.Sub) ∷ [])
    ≡ replicate 4 ((Some 14, Some 15, Some 21) ∷ []) ++ replicate 3 []
ranges_fit = refl

-- the same by the heads of steps; and from the first operator to the loop what is between: loop, +, block, definition
ranges_begin : map (λ (pair : BinOp × BinOp). may_begin (sight true) 0 (in_range pair.0 pair.1) 17)
    ((op.Add, op.Add) ∷ (op.Add, op.Rem) ∷ (op.Sub, op.Add) ∷ (op.Sub, op.Rem) ∷ (op.Shr, op.Sub) ∷ (op.Rem, op.Div)
    ∷ (op.Rem, op.Sub) ∷ [])
    ≡ true ∷ true ∷ true ∷ true ∷ false ∷ false ∷ false ∷ []
ranges_begin = refl

-- the sides of x + 1 in each order, and in one alone where the rule is exact; and the heads of such steps
abbrev sum_in_sides : List Step
sum_in_sides = step.Sides (kind.Node (node.Binary op.Add)) (kind.Node (node.Binary op.Rem)) true ∷ hole 1 sort.Any
    ∷ step.Done ∷ hole 0 sort.Any ∷ step.Done ∷ step.Done ∷ []

sides_fit : map (λ (loose : Bool). at loose sum_in_sides 16) (true ∷ false ∷ [])
    ≡ ((Some 14, Some 15, Some 21) ∷ (Some 15, Some 14, Some 21) ∷ []) ∷ ((Some 14, Some 15, Some 21) ∷ []) ∷ []
sides_fit = refl

sides_begin : map (may_begin (sight true) 0 sum_in_sides) (16 ∷ 17 ∷ 18 ∷ []) ≡ false ∷ true ∷ false ∷ []
sides_begin = refl

-- < and > change places, and <= and >=
mirrored_operators : map (λ o. kind_number (mirrored (kind.Node (node.Binary o)))) operators
    ≡ 25 ∷ 26 ∷ 27 ∷ 28 ∷ 31 ∷ 32 ∷ 29 ∷ 30 ∷ range_with_len 33 7
mirrored_operators = refl

-- == and != deny each other, < and >=, <= and >; no other operator has one that denies it
negated_operators : map (λ o. option_map kind_number (negated o)) operators
    ≡ None ∷ None ∷ map Some (28 ∷ 27 ∷ 32 ∷ 31 ∷ 30 ∷ 29 ∷ []) ++ replicate 7 None
negated_operators = refl

-- *(v + i) where an index is asked for, !(a == b) where an operator is, and what only looks so
kinds_within : map (λ (k : Node × Node × Node). option_map kind_number
    (kind_within (kind.Node k.0) (kind.Node k.1) (kind.Node k.2)))
    ((node.Indexed, node.Indirection, node.Binary op.Add) ∷ (node.Binary op.Or, node.Not, node.Binary op.Eq)
    ∷ (node.Indexed, node.Indirection, node.Binary op.Sub) ∷ (node.Indexed, node.Not, node.Binary op.Eq)
    ∷ (node.Name, node.Indirection, node.Binary op.Add) ∷ (node.Binary op.Eq, node.Not, node.Binary op.Add)
    ∷ (node.Binary op.Eq, node.Negate, node.Binary op.Eq) ∷ (node.Binary op.Eq, node.Not, node.Not) ∷ [])
    ≡ Some 4 ∷ Some 28 ∷ replicate 6 None
kinds_within = refl

range_of_two : flat_map (at true (step.Range (kind.Node (node.Binary op.Or)) (kind.Construct construct.While)
    ∷ told_maker ∷ step.Dots ∷ step.Done ∷ step.Done ∷ [])) (range_with_len 0 22)
    ≡ map (λ token. (None, None, Some token)) (5 ∷ 21 ∷ 4 ∷ 0 ∷ [])
unfolding ends_of
range_of_two = refl

-- $0 = $0 + .., where what stands left and right is the same name
assigned_fits : at true (step.Tree (kind.Node (node.Assigned None)) ∷ binary op.Add
    ∷ hole 1 sort.Constant ∷ hole 0 sort.Any ∷ step.Done ∷ told_first ∷ hole 0 sort.Any ∷ step.Done ∷ step.Done ∷ []) 17
    ≡ (Some 14, Some 15, Some 18) ∷ []
assigned_fits = refl

-- the name x, of one byte of two and of two; and a row that isn't over, or whose steps aren't
names_fit : map (λ (is : List Step). length (at true is 14))
    ((step.Leaf (leaf.Name (120 ∷ 121 ∷ []) 1) ∷ step.Done ∷ [])
    ∷ (step.Leaf (leaf.Name (120 ∷ 121 ∷ []) 2) ∷ step.Done ∷ []) ∷ (step.Leaf (leaf.Name [] 0) ∷ step.Done ∷ [])
    ∷ (step.Done ∷ []) ∷ (hole 0 sort.Any ∷ []) ∷ (hole 0 sort.Any ∷ hole 1 sort.Any ∷ step.Done ∷ []) ∷ [])
    ≡ 1 ∷ 0 ∷ 0 ∷ 0 ∷ 0 ∷ 0 ∷ []
names_fit = refl

-- a name in parentheses is a name for a rule that is loose, and for no other
parentheses : map (λ (loose : Bool). at loose (told_first ∷ hole 0 sort.Name ∷ step.Done ∷ []) 7)
    (true ∷ false ∷ []) ≡ ((Some 6, None, Some 12) ∷ []) ∷ [] ∷ []
parentheses = refl

own_parentheses : map (λ (loose : Bool). at loose (step.Tree (kind.Node node.Grouped) ∷ told_maker ∷ hole 0 sort.Any
    ∷ step.Done ∷ step.Done ∷ []) 7) (true ∷ false ∷ []) ≡ replicate 2 ((Some 6, None, Some 11) ∷ [])
own_parentheses = refl

-- which sorts x, 1 and the call are
sorts_of_some : map (λ (s : Sort). map (λ index. length (at true (hole 0 s ∷ step.Done ∷ []) index))
    (14 ∷ 15 ∷ 9 ∷ [])) (sort.Any ∷ sort.Name ∷ sort.Number ∷ sort.Character ∷ sort.Constant ∷ sort.Text ∷ [])
    ≡ (1 ∷ 1 ∷ 1 ∷ []) ∷ (1 ∷ 0 ∷ 0 ∷ []) ∷ (0 ∷ 1 ∷ 0 ∷ []) ∷ (0 ∷ 0 ∷ 0 ∷ []) ∷ (0 ∷ 1 ∷ 0 ∷ []) ∷ (0 ∷ 0 ∷ 0 ∷ []) ∷ []
sorts_of_some = refl

-- where a row of two arguments may end, in as many steps: after both, after one, before them
ends : map (λ most. ends_of rows most 5 9) (0 ∷ 1 ∷ 2 ∷ 4 ∷ 9 ∷ [])
    ≡ [] ∷ (9 ∷ []) ∷ (9 ∷ 8 ∷ []) ∷ (9 ∷ 8 ∷ 6 ∷ 5 ∷ []) ∷ (9 ∷ 8 ∷ 6 ∷ 5 ∷ []) ∷ []
unfolding ends_of
ends = refl

-- one of two, the first way first; and what comes after a jump
either_fits : at true (step.Either 3 ∷ told_first ∷ hole 0 sort.Name ∷ step.Jump 3 ∷ step.Either 1 ∷ hole 1 sort.Text
    ∷ hole 1 sort.Any ∷ step.Done ∷ []) 14
    ≡ (Some 14, None, Some 20) ∷ (None, Some 14, None) ∷ []
either_fits = refl

-- passing over no step, one, all and more
jumps : map (λ n. length (at true (step.Jump n ∷ hole 0 sort.Text ∷ hole 0 sort.Any ∷ step.Done ∷ []) 14))
    (0 ∷ 1 ∷ 2 ∷ 3 ∷ 4 ∷ 65535 ∷ []) ≡ 0 ∷ 1 ∷ 0 ∷ 0 ∷ 0 ∷ 0 ∷ []
jumps = refl

-- f, then any arguments but the last
dots_fit : at true (step.Tree (kind.Node node.Called) ∷ hole 1 sort.Any ∷ step.Dots ∷ told_first ∷ hole 0 sort.Name
    ∷ step.Done ∷ step.Done ∷ []) 9 ≡ (Some 4, Some 8, Some 9) ∷ []
unfolding ends_of
dots_fit = refl

-- the branches that are the same tree as x in x + 1: each x, but not in parentheses, and no other
same_as_x : map (is_same tree 14) (range_with_len 0 22)
    ≡ false ∷ true ∷ true ∷ false ∷ false ∷ false ∷ true ∷ false ∷ false ∷ replicate 4 false ++ true ∷ true ∷ replicate 7 false
same_as_x = refl

abbrev rooted : (index : ℕ) → Binds
rooted index = with_hole (with_hole nothing_bound ROOT index) 0 index

abbrev in_scope : Scope → List ℕ
in_scope c =
    let span = scope_span site c (rooted 12) in
    flat_map (λ i. if_within (is_within site c (rooted 12) i) i) (range_with_len span.begin (length_of span.begin span.end))
  where
    if_within : Bool → ℕ → List ℕ
    if_within true i = i ∷ []
    if_within false i = []

    length_of : ℕ → ℕ → ℕ
    length_of begin end = end - begin

-- the scopes of the loop: the function, what is before and after it, around it, in it, and in no other loop in it
scopes : map in_scope (scope.Before ∷ scope.After ∷ scope.Around ∷ scope.Hole 0 ∷ scope.Own 0 ∷ scope.Hole 1 ∷ [])
    ≡ (0 ∷ 1 ∷ []) ∷ range_with_len 13 7 ∷ (20 ∷ 21 ∷ []) ∷ range_with_len 2 11 ∷ (12 ∷ []) ∷ [] ∷ []
scopes = refl

whole_function : map in_scope (scope.Function ∷ scope.Program ∷ scope.Loop ∷ scope.Definitions ∷ [])
    ≡ replicate 2 (range_with_len 0 22) ++ [] ∷ (21 ∷ []) ∷ []
whole_function = refl

-- the loop around the call, its condition and itself: in it, in it, and none
loops : map (loop_around site) (9 ∷ 2 ∷ 12 ∷ 17 ∷ []) ≡ Some 12 ∷ Some 12 ∷ None ∷ None ∷ []
loops = refl

-- what each branch of small changes: x in x = x + 1 alone
changed : map (changed_by rows) (range_with_len 0 22) ≡ replicate 17 None ++ Some 13 ∷ replicate 4 None
changed = refl

abbrev leaf_row : Kind → (begin : ℕ) → (core : ℕ) → Branch
leaf_row k begin core =
    record { kind = k; token = 0; first = 0; last = 0; begin = begin; core = core; acts = false; loops = 0 }

-- !(x < 1) is x >= 1, and 1 <= x, for a rule that is loose: the operator in it is told; at < itself these aren't found
abbrev token_row : Kind → (token begin core : ℕ) → Branch
token_row k token begin core =
    record { kind = k; token = token; first = token; last = token; begin = begin; core = core; acts = false; loops = 0 }

abbrev denied : (loose : Bool) → Sight
denied loose =
    record {
      tree = record {
        text = tree.text;
        lexemes = tree.lexemes;
        places = tree.places;
        rows = record {
          ref_ptr = (0, 0);
          now = token_row (kind.Node node.Name) 2 0 0
              ∷ token_row (kind.Node node.Constant) 4 1 1 ∷ token_row (kind.Node (node.Binary op.Lt)) 3 0 2
              ∷ token_row (kind.Node node.Grouped) 1 0 2 ∷ token_row (kind.Node node.Not) 0 0 4 ∷ [];
        };
      };
      steps = record { ref_ptr = (0, 0); now = [] };
      is_loose = loose;
    }

abbrev in_denied : (loose : Bool) → (index : ℕ) → (first last : BinOp) → List (Option ℕ × Option ℕ × Option ℕ)
in_denied loose index first last = ways (fits_at (denied loose) (step.Sides (kind.Node (node.Binary first))
    (kind.Node (node.Binary last)) true ∷ hole 1 sort.Any ∷ step.Done ∷ hole 0 sort.Any ∷ step.Done
    ∷ step.Done ∷ []) index nothing_bound)

denied_fits : in_denied true 4 op.Ge op.Ge ++ in_denied true 4 op.Le op.Le
    ≡ (Some 0, Some 1, Some 3) ∷ (Some 1, Some 0, Some 3) ∷ []
denied_fits = refl

denied_elsewhere : map (λ (index : ℕ). in_denied true index op.Ge op.Ge) (0 ∷ 1 ∷ 2 ∷ 3 ∷ 5 ∷ [])
    ++ map (λ (o : BinOp). in_denied true 4 o o) (op.Lt ∷ op.Gt ∷ op.Eq ∷ op.Ne ∷ op.Or ∷ [])
    ++ in_denied false 4 op.Or op.Ge ∷ [] ≡ replicate 11 []
denied_elsewhere = refl

-- x, (x), y, and a change of what stands before it: (x) =+ y, and (x) counted in each way; -(x) changes nothing
changes : map (λ (k : Kind). changed_by (leaf_row (kind.Node node.Name) 0 0 ∷ leaf_row (kind.Node node.Grouped) 0 0
    ∷ leaf_row k 0 2 ∷ []) 2) (map kind.Node (node.PostIncrement ∷ node.PostDecrement ∷ node.PreIncrement
    ∷ node.PreDecrement ∷ node.Negate ∷ node.Assigned None ∷ []))
    ≡ replicate 4 (Some 0) ++ None ∷ Some 0 ∷ []
changes = refl

assigned_changes : map (λ (o : Option BinOp). changed_by (leaf_row (kind.Node node.Name) 0 0
    ∷ leaf_row (kind.Node node.Grouped) 0 0 ∷ leaf_row (kind.Node node.Name) 2 2
    ∷ leaf_row (kind.Node (node.Assigned o)) 0 3 ∷ []) 3) (None ∷ map Some operators) ≡ replicate 16 (Some 0)
assigned_changes = refl

-- the last change of x before the end, before itself, and before the loop; of f there is none
changes_before : (change_before site 14 22 ∷ change_before site 14 18 ∷ change_before site 14 17 ∷ change_before site 14 2
    ∷ change_before site 0 22 ∷ []) ≡ Some 17 ∷ Some 17 ∷ None ∷ None ∷ None ∷ []
changes_before = refl

-- each relation, below, at and above a number, and at the edges of a word
relations : map (λ r. map (λ n. compares r n 4) (0 ∷ 3 ∷ 4 ∷ 5 ∷ 65535 ∷ []))
    (relation.Equal ∷ relation.Unequal ∷ relation.Less ∷ relation.AtMost ∷ relation.Greater ∷ relation.AtLeast ∷ [])
    ≡ (false ∷ false ∷ true ∷ false ∷ false ∷ []) ∷ (true ∷ true ∷ false ∷ true ∷ true ∷ [])
    ∷ (true ∷ true ∷ false ∷ false ∷ false ∷ []) ∷ (true ∷ true ∷ true ∷ false ∷ false ∷ [])
    ∷ (false ∷ false ∷ false ∷ true ∷ true ∷ []) ∷ (false ∷ false ∷ true ∷ true ∷ true ∷ []) ∷ []
relations = refl

-- what is compared: a number, the values 1 and 1, their product, of x no value, and no bytes of an unbound hole
measures : map (λ m. measure_of tree m (with_hole (with_hole nothing_bound 0 15) 1 8)) (measure.Number 0
    ∷ measure.Number 65535 ∷ measure.Value 0 ∷ measure.Product 0 1 ∷ measure.Product 0 2 ∷ measure.Bytes 2
    ∷ measure.Bytes 0 ∷ []) ≡ Some 0 ∷ Some 65535 ∷ Some 1 ∷ Some 1 ∷ None ∷ None ∷ Some 0 ∷ []
measures = refl

-- of f((x),1): its two arguments, and which each of them is; of the definition one parameter; where they begin
counts : map (λ m. measure_of tree m (with_hole (with_hole (with_hole nothing_bound 0 9) 1 8) 2 21)) (measure.Arguments 0
    ∷ measure.Arguments 2 ∷ measure.Arguments 1 ∷ measure.Arguments 3 ∷ measure.Place 1 0 ∷ measure.Place 0 2
    ∷ measure.Place 1 3 ∷ measure.Token 0 ∷ measure.Token 3 ∷ measure.Line 0 ∷ measure.Indent 0 ∷ measure.Room 1
    ∷ measure.Room 0 ∷ measure.Remainder 1 1 ∷ measure.Remainder 1 0 ∷ measure.Letters 1 ∷ measure.Letters 3 ∷ [])
    ≡ Some 2 ∷ Some 1 ∷ Some 0 ∷ None ∷ Some 2 ∷ Some 3 ∷ None ∷ Some 9 ∷ None ∷ None ∷ None ∷ Some 3 ∷ None ∷ Some 0
    ∷ None ∷ Some 0 ∷ None ∷ []
counts = refl

-- blanks before a place: none at the beginning, one, a tab and a blank after a newline, and none after a letter
blanks : map (λ (n : ℕ). blanks_at (codes " a\n\t b") n 0 MOST_COUNTED) (0 ∷ 1 ∷ 2 ∷ 3 ∷ 4 ∷ 5 ∷ [])
    ≡ Some 0 ∷ Some 1 ∷ None ∷ Some 0 ∷ Some 8 ∷ Some 9 ∷ []
blanks = refl

letters : map letters_of (codes "\"ab\"" ∷ codes "\"*n*e\"" ∷ codes "\"\"" ∷ []) ≡ 2 ∷ 2 ∷ 0 ∷ []
letters = refl

rests : map (remainder_of (Some 7)) (Some 2 ∷ Some 7 ∷ Some 0 ∷ None ∷ []) ≡ Some 1 ∷ Some 0 ∷ None ∷ None ∷ []
rests = refl

products : map (product_of (Some 300)) (Some 300 ∷ Some 0 ∷ Some 65535 ∷ None ∷ []) ≡ Some 90000 ∷ Some 0 ∷ Some 19660500 ∷ None ∷ []
products = refl

-- where one of both isn't there, nothing is so
compared_both : map (λ r. compares_both (Some 4) r (Some 4) ∷ compares_both None r (Some 4) ∷ compares_both (Some 4) r None
    ∷ compares_both None r None ∷ []) (relation.Equal ∷ relation.Unequal ∷ relation.AtMost ∷ [])
    ≡ (true ∷ replicate 3 false) ∷ replicate 4 false ∷ (true ∷ replicate 3 false) ∷ []
compared_both = refl

-- the names and the second place of a notice
noticed : map (λ (n : ℕ). first_token tree (hole_of (with_hole nothing_bound 0 9) n)) (0 ∷ 1 ∷ NO_HOLE ∷ [])
    ≡ Some 9 ∷ None ∷ None ∷ []
noticed = refl

abbrev passed : Test → (index : ℕ) → Bool
passed t index = passes_test site t (with_told (rooted index) true 15)

-- of x + 1, 1, the call and the name f: nothing acts; a constant; the function's own name; a parameter
tested : map (λ t. map (passed t) (16 ∷ 15 ∷ 9 ∷ 4 ∷ 14 ∷ []))
    (test.Quiet 0 ∷ test.Compares (measure.Value 0) relation.Equal (measure.Number 1)
    ∷ test.Compares (measure.Value 0) relation.Less (measure.Number 1) ∷ test.OwnName 0 ∷ test.Parameter 0
    ∷ test.Quiet 3 ∷ test.Parameter 3 ∷ test.Heading 0 ∷ test.Heading 3 ∷ test.Next 0 (sign_number lexeme.OpenParen)
    ∷ test.Next 3 (sign_number lexeme.OpenParen) ∷ [])
    ≡ (true ∷ true ∷ false ∷ true ∷ true ∷ []) ∷ (false ∷ true ∷ false ∷ false ∷ false ∷ []) ∷ replicate 5 false
    ∷ (false ∷ false ∷ false ∷ true ∷ false ∷ []) ∷ (false ∷ false ∷ false ∷ false ∷ true ∷ []) ∷ replicate 5 false
    ∷ replicate 5 false ∷ replicate 5 false ∷ replicate 5 false ∷ (false ∷ false ∷ false ∷ true ∷ false ∷ [])
    ∷ replicate 5 false ∷ []
tested = refl

-- after the token 15, which is 1, comes )
next_token : map (λ l. passed (test.Followed (sign_number l)) 16) (lexeme.CloseParen ∷ lexeme.OpenParen ∷ lexeme.Semicolon
    ∷ lexeme.Operator op.Add ∷ lexeme.Question ∷ []) ≡ true ∷ replicate 4 false
next_token = refl

signs : map (λ l. map (follows (sign_number l)) (lexeme.OpenBrace ∷ lexeme.CloseBrace ∷ lexeme.OpenParen ∷ lexeme.CloseParen
    ∷ lexeme.OpenBracket ∷ lexeme.CloseBracket ∷ lexeme.Semicolon ∷ lexeme.Comma ∷ lexeme.Operator op.Or
    ∷ lexeme.Operator op.Div ∷ lexeme.Colon ∷ [])) (lexeme.OpenBrace ∷ lexeme.Operator op.Or ∷ lexeme.Colon ∷ [])
    ≡ (true ∷ replicate 10 false) ∷ (replicate 8 false ++ true ∷ replicate 2 false) ∷ replicate 11 false ∷ []
signs = refl

words : map (λ w. map (is_word w) (lexeme.Semicolon ∷ lexeme.Keyword keyword.Return ∷ lexeme.Keyword keyword.Break
    ∷ lexeme.Keyword keyword.Auto ∷ lexeme.Keyword keyword.Extrn ∷ lexeme.Keyword keyword.Goto ∷ lexeme.End ∷ []))
    (word.Nothing ∷ word.Return ∷ word.Break ∷ word.Auto ∷ word.Extrn ∷ [])
    ≡ map (λ n. map (λ m. m == n) (range_with_len 0 7)) (range_with_len 0 5)
words = refl

-- the loop begins with while, its body and small with a name; an unbound hole with nothing
begun : map (λ i. map (begins_with tree i) (word.Nothing ∷ word.Return ∷ word.Auto ∷ [])) (Some 12 ∷ Some 21 ∷ None ∷ [])
    ≡ replicate 3 (replicate 3 false)
begun = refl

-- x in x + 1, itself, not what is before it, not the sum in x, and nothing where one isn't there
insides : map (λ m. is_inside tree (Some m) (Some 16)) (13 ∷ 14 ∷ 16 ∷ 17 ∷ []) ++ is_inside tree (Some 16) (Some 14)
    ∷ is_inside tree None (Some 16) ∷ is_inside tree (Some 14) None ∷ []
    ≡ false ∷ true ∷ true ∷ false ∷ false ∷ false ∷ false ∷ []
insides = refl

befores : map (λ m. comes_before tree (Some m) (Some 16)) (0 ∷ 13 ∷ 14 ∷ 16 ∷ 17 ∷ []) ++ comes_before tree None (Some 16)
    ∷ comes_before tree (Some 0) None ∷ [] ≡ true ∷ true ∷ replicate 5 false
befores = refl

-- the assignment and the call are all that their statements do
dropped : map (λ i. is_dropped tree i) (Some 17 ∷ Some 9 ∷ Some 16 ∷ Some 18 ∷ Some 21 ∷ Some 22 ∷ None ∷ [])
    ≡ true ∷ true ∷ replicate 5 false
dropped = refl

-- the name of the function begins a definition, and so does what comes after it
definitions : map (λ i. begins_definition tree i) (Some 0 ∷ Some 22 ∷ Some 1 ∷ Some 21 ∷ None ∷ [])
    ≡ true ∷ true ∷ replicate 3 false
definitions = refl

sizes : (size_by (Some 4) 3 ∷ size_by (Some 1) 9 ∷ size_by (Some 0) 0 ∷ size_by None 0 ∷ size_by None 7 ∷ [])
    ≡ 5 ∷ 8 ∷ 1 ∷ 1 ∷ 7 ∷ []
sizes = refl

-- auto v 4; v[4] 1, 2; v[]; and what has no size
declared_sizes : map size_declared ((lexeme.Number 4 ∷ lexeme.Semicolon ∷ []) ∷ (lexeme.Comma ∷ []) ∷ [] ∷ [])
    ≡ Some 5 ∷ None ∷ None ∷ []
declared_sizes = refl

defined_sizes : map (λ ls. size_defined ls 3) ((lexeme.OpenBracket ∷ lexeme.Number 4 ∷ lexeme.CloseBracket ∷ [])
    ∷ (lexeme.OpenBracket ∷ lexeme.CloseBracket ∷ []) ∷ (lexeme.OpenBracket ∷ []) ∷ (lexeme.OpenParen ∷ lexeme.Number 4 ∷ []) ∷ [])
    ≡ Some 5 ∷ Some 3 ∷ None ∷ None ∷ []
defined_sizes = refl

no_sizes : map (size_in tree) (Some 0 ∷ Some 14 ∷ None ∷ []) ≡ replicate 3 None
no_sizes = refl

branches_of_definition : map (branches_up_to 3) (None ∷ Some 3 ∷ Some 4 ∷ Some 9 ∷ []) ≡ 0 ∷ 0 ∷ 0 ∷ 5 ∷ []
branches_of_definition = refl

sums : map (sum_of (Some 65535)) (Some 65535 ∷ Some 0 ∷ None ∷ []) ≡ Some 131070 ∷ Some 65535 ∷ None ∷ []
sums = refl

-- 7 and 3, either way, divided by 3, by 4 and by 0
differences : map (rest_of (Some 7) (Some 3)) (Some 3 ∷ Some 4 ∷ Some 0 ∷ None ∷ []) ++ rest_of (Some 3) (Some 7) (Some 3)
    ∷ rest_of None (Some 7) (Some 3) ∷ rest_of (Some 7) None (Some 3) ∷ []
    ≡ Some 1 ∷ Some 0 ∷ None ∷ None ∷ Some 1 ∷ None ∷ None ∷ []
differences = refl

negatives : map is_negative (lexeme.Number 32767 ∷ lexeme.Number 32768 ∷ lexeme.Number 65535 ∷ lexeme.Operator op.Sub
    ∷ lexeme.Operator op.Add ∷ lexeme.Character 65535 ∷ []) ≡ false ∷ true ∷ true ∷ true ∷ false ∷ false ∷ []
negatives = refl

ends_of_lists : map is_no_end (lexeme.Semicolon ∷ lexeme.Comma ∷ lexeme.End ∷ []) ≡ false ∷ true ∷ true ∷ []
ends_of_lists = refl

constants_first : map first_constant ((lexeme.Number 4 ∷ []) ∷ (lexeme.Character 65 ∷ []) ∷ (lexeme.Comma ∷ lexeme.Number 4 ∷ [])
    ∷ [] ∷ []) ≡ Some 4 ∷ Some 65 ∷ None ∷ None ∷ []
constants_first = refl

abbrev place : (start len : ℕ) → TokenPlace
place start len = record { line = 1; start = start; len = len }

-- side by side, with a byte between, one over the other, and the last one
joined_places : are_joined (Some (place 3 2)) (Some (place 5 1)) ∷ are_joined (Some (place 3 2)) (Some (place 6 1))
    ∷ are_joined (Some (place 3 2)) (Some (place 4 1)) ∷ are_joined (Some (place 3 2)) None ∷ are_joined None None ∷ []
    ≡ true ∷ replicate 4 false
joined_places = refl

escapes : map (has_c_escape 0) (codes "\"\\n\"" ∷ codes "\"\\t" ∷ codes "a\\r" ∷ codes "\\0" ∷ codes "\\\\"
    ∷ codes "\\" ∷ codes "n\\" ∷ codes "\\e" ∷ codes "*n" ∷ codes "\\ n" ∷ [])
    ≡ replicate 5 true ++ replicate 5 false
escapes = refl

-- the last hole that there is, and one past it
holes : map (hole_of (with_hole (with_hole nothing_bound 15 7) 16 8)) (0 ∷ 14 ∷ 15 ∷ 16 ∷ []) ≡ None ∷ None ∷ Some 7 ∷ None ∷ []
holes = refl

limits : MOST_HOLES ∷ NO_HOLE ∷ ROOT ∷ MOST_PASSED ∷ MOST_BRANCHES ∷ MOST_IN_ALL ∷ [] ≡ 16 ∷ 16 ∷ 15 ∷ 1000 ∷ 4096 ∷ 32768 ∷ []
limits = refl

-- Claims: $0 is x, at the steps from 0 on; some branch of the function is, at those from 3 on a call.
abbrev steps : List Step
steps =
    step.Jump 0 ∷ step.Leaf (leaf.Name (120 ∷ []) 1) ∷ step.Done ∷ step.Tree (kind.Node node.Called) ∷ step.Dots
    ∷ step.Done ∷ step.Done ∷ []

abbrev site_with : Site
site_with = record { sight = sight_of_steps steps true; function = span_of 0 22 }

abbrev held : List Claim → (index : ℕ) → List (Option ℕ × Option ℕ × Option ℕ)
held cs index = ways (holds_in site_with 0 cs (with_hole nothing_bound 0 index))

abbrev is_x : Claim
is_x = claim.Is 0 0

abbrev fails : Claim
fails = claim.Test (test.Quiet 3)

claims_hold : map (λ cs. map (λ index. length (held cs index)) (14 ∷ 15 ∷ []))
    ([] ∷ (claim.End ∷ fails ∷ []) ∷ (is_x ∷ claim.End ∷ []) ∷ (is_x ∷ fails ∷ claim.End ∷ []) ∷ (is_x ∷ is_x ∷ claim.End ∷ [])
    ∷ (claim.Not 2 ∷ is_x ∷ claim.End ∷ claim.End ∷ []) ∷ (claim.Not 2 ∷ is_x ∷ claim.End ∷ fails ∷ claim.End ∷ [])
    ∷ (claim.Either 2 ∷ fails ∷ claim.Jump 1 ∷ is_x ∷ claim.End ∷ [])
    ∷ (claim.Either 2 ∷ is_x ∷ claim.Jump 1 ∷ fails ∷ claim.End ∷ [])
    ∷ (claim.Either 2 ∷ is_x ∷ claim.Jump 1 ∷ is_x ∷ claim.Jump 1 ∷ fails ∷ claim.End ∷ []) ∷ (claim.Jump 1 ∷ fails ∷ claim.End ∷ []) ∷ [])
    ≡ (1 ∷ 1 ∷ []) ∷ (1 ∷ 1 ∷ []) ∷ (1 ∷ 0 ∷ []) ∷ (0 ∷ 0 ∷ []) ∷ (1 ∷ 0 ∷ []) ∷ (0 ∷ 1 ∷ []) ∷ (0 ∷ 0 ∷ []) ∷ (1 ∷ 0 ∷ [])
    ∷ (1 ∷ 0 ∷ []) ∷ (2 ∷ 0 ∷ []) ∷ (1 ∷ 1 ∷ []) ∷ []
claims_hold = refl

-- What is called is asked of the holes that it is given: of x, of nothing, of x under another number. What it binds isn't
-- seen here, and what comes after it has to hold, too.
calls_hold : map (λ cs. held cs 14)
    ((claim.Call 1 0 NO_HOLE NO_HOLE NO_HOLE ∷ claim.End ∷ is_x ∷ claim.End ∷ [])
    ∷ (claim.Call 1 1 NO_HOLE NO_HOLE NO_HOLE ∷ claim.End ∷ is_x ∷ claim.End ∷ [])
    ∷ (claim.Call 1 NO_HOLE NO_HOLE NO_HOLE 0 ∷ claim.End ∷ claim.Is 3 0 ∷ claim.Some scope.Function 1 3 ∷ claim.End ∷ [])
    ∷ (claim.Call 1 0 NO_HOLE NO_HOLE NO_HOLE ∷ fails ∷ is_x ∷ claim.End ∷ []) ∷ [])
    ≡ ((Some 14, None, None) ∷ []) ∷ [] ∷ ((Some 14, None, None) ∷ []) ∷ [] ∷ []
unfolding ends_of
calls_hold = refl

-- the call is some branch of the function, and hole 1 stands for it; none changes x before itself
sought_claims : map (λ c. held (c ∷ claim.End ∷ []) 14)
    (claim.Some scope.Function 1 3 ∷ claim.Some scope.Function NO_HOLE 3 ∷ claim.Some scope.Before 1 3 ∷ claim.Begun 0 0 ∷ [])
    ≡ ((Some 14, Some 9, None) ∷ []) ∷ ((Some 14, None, None) ∷ []) ∷ [] ∷ [] ∷ []
unfolding ends_of
sought_claims = refl

abbrev rule : (number pattern condition : ℕ) → Rule
rule number pattern condition =
    record {
      number = number;
      pattern = pattern;
      condition = condition;
      named = 0;
      beside = NO_HOLE;
      is_loose = true;
      looks_around = false;
      looks_far = false;
    }

-- two rules, which the call and each x fit, in the order of the rules, then of the branches; and one that doesn't hold
abbrev table : RuleTable
table =
    record {
      steps = record { ref_ptr = (0, 0); now = steps };
      claims = record { ref_ptr = (0, 0); now = claim.End ∷ fails ∷ claim.End ∷ [] };
      rules = record { ref_ptr = (0, 0); now = rule 4 3 0 ∷ rule 7 3 1 ∷ rule 5 1 0 ∷ [] };
    }

abbrev told_notice : Notice → ℕ × ℕ
told_notice n = (n.rule, n.token)

told_by_table : map told_notice (notices_by tree table)
    ≡ (4, 9) ∷ (5, 2) ∷ (5, 7) ∷ (5, 12) ∷ (5, 11) ∷ (5, 18) ∷ (5, 20) ∷ []
unfolding ends_of
told_by_table = refl
