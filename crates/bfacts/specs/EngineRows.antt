-- Closed facts: what patterns and conditions find in small rows of branches, beside the facts of `bmatch` itself.
use Rattle.std.specs.Prelude.{◌≡◌, ℕ, codes, true, false, Bool, List, [], ◌∷◌, ◌++◌, None, Option, Some}
use Rattle.std.specs.Prelude.{map, refl, length, replicate, ◌+◌, suc}
use Rattle.std.specs.List.{range_with_len}
use Rattle.bword.specs.declared.operators.BinOp.{BinOp}
use Rattle.bword.specs.declared.operators.BinOp.TheVariants as op
use Rattle.blang.specs.declared.token.Keyword.TheVariants as keyword
use Rattle.blang.specs.Trees.{Another, Assigned, Binary, Called, Compound, Definition, Evaluate, Expr, Function}
use Rattle.blang.specs.Trees.{Grouped, Identifier, Literal, More, Named, No_arguments, Nothing, Number, While}
use Rattle.blex.specs.declared.lexeme.Lexeme.TheVariants as lexeme
use Rattle.btree.specs.declared.nodes.Node.{Node}
use Rattle.btree.specs.declared.nodes.Node.TheVariants as node
use Rattle.btree.specs.declared.tags.Construct.{Construct}
use Rattle.btree.specs.declared.tags.Construct.TheVariants as construct
use Rattle.bmatch.specs.declared.binds.Binds.{Binds}
use Rattle.bmatch.specs.declared.conditions.Claim.{Claim}
use Rattle.bmatch.specs.declared.conditions.Claim.TheVariants as claim
use Rattle.bmatch.specs.declared.conditions.Measure.TheVariants as measure
use Rattle.bmatch.specs.declared.conditions.Relation.TheVariants as relation
use Rattle.bmatch.specs.declared.conditions.Scope.TheVariants as scope
use Rattle.bmatch.specs.declared.conditions.Test.{Test}
use Rattle.bmatch.specs.declared.conditions.Test.TheVariants as test
use Rattle.bmatch.specs.declared.fits.Sight.{Sight}
use Rattle.bmatch.specs.declared.holds.Site.{Site}
use Rattle.bmatch.specs.declared.noticing.Notice.{Notice}
use Rattle.bmatch.specs.declared.noticing.TheConstants.{MOST_BRANCHES, MOST_IN_ALL}
use Rattle.bmatch.specs.declared.pattern.Leaf.TheVariants as leaf
use Rattle.bmatch.specs.declared.pattern.Sort.{Sort}
use Rattle.bmatch.specs.declared.pattern.Sort.TheVariants as sort
use Rattle.bmatch.specs.declared.pattern.Rule.{Rule}
use Rattle.bmatch.specs.declared.pattern.RuleTable.{RuleTable}
use Rattle.bmatch.specs.declared.pattern.Spot.TheVariants as spot
use Rattle.bmatch.specs.declared.pattern.Step.{Step}
use Rattle.bmatch.specs.declared.pattern.Step.TheVariants as step
use Rattle.bmatch.specs.declared.pattern.TheConstants.{NO_HOLE, ROOT}
use Rattle.bmatch.specs.declared.pattern.Word.TheVariants as word
use Rattle.bmatch.specs.declared.tree.Branch.{Branch}
use Rattle.bmatch.specs.declared.tree.Kind.{Kind}
use Rattle.bmatch.specs.declared.tree.Kind.TheVariants as kind
use Rattle.bmatch.specs.declared.tree.TokenPlace.{TokenPlace}
use Rattle.bmatch.specs.declared.tree.Tree.{Tree}
use Rattle.bmatch.specs.Asking.{begins_with, measure_of, passes_test, remainder_of, rest_of, sign_number, is_heading}
use Rattle.bmatch.specs.Asking.{told_token}
use Rattle.bmatch.specs.Binds.{hole_of, nothing_bound, with_hole, with_told}
use Rattle.bmatch.specs.Changes.{change_before, changed_by}
use Rattle.bmatch.specs.Counting.{blanks_at, arguments_in, indent_at, place_in}
use Rattle.bmatch.specs.Fits.{ends_of, span_of, fits_in}
use Rattle.bmatch.specs.Growing.{lexemes_of, program_rows}
use Rattle.bmatch.specs.Holds.{fits_at, holds_in, is_within, loop_around, scope_span, hole_span, root_of}
use Rattle.bmatch.specs.Notices.{notices_by, function_notices, functions_in, is_passed_over}
use Rattle.bmatch.specs.Same.{is_same, is_same_lexeme}
use Rattle.blex.specs.declared.lexeme.Lexeme.{Lexeme}
use Rattle.bmatch.specs.declared.conditions.Measure.{Measure}

abbrev operators : List BinOp
operators =
    op.Or ∷ op.And ∷ op.Eq ∷ op.Ne ∷ op.Lt ∷ op.Le ∷ op.Gt ∷ op.Ge ∷ op.Shl ∷ op.Shr ∷ op.Sub ∷ op.Add ∷ op.Rem ∷ op.Mul
    ∷ op.Div ∷ []

abbrev constructs : List Construct
constructs =
    construct.Definition ∷ construct.Block ∷ construct.If ∷ construct.IfElse ∷ construct.While ∷ construct.Switch
    ∷ construct.Heading ∷ construct.Plain ∷ construct.Parens ∷ []

abbrev name : List ℕ → Identifier
name text = record { text = text; line = 1 }

abbrev x : Expr
x = Named (name (codes "x"))

abbrev one : Expr
one = Literal (Number 1)

-- f(x){while(x)f((x),1);x=x+1;}
abbrev small : List Definition
small =
    Function (name (codes "f")) (name (codes "x") ∷ []) (Compound (More (More Nothing
    (While x (Evaluate (Called (Named (name (codes "f"))) (Another (Another No_arguments (Grouped x)) one)))))
    (Evaluate (Assigned None 1 x (Binary op.Add 1 x one))))) ∷ []

abbrev rows : List Branch
rows = program_rows small

abbrev tree : Tree
tree =
    record {
      text = record { ref_ptr = (0, 0); now = [] };
      lexemes = record { ref_ptr = (0, 0); now = lexemes_of small };
      places = record { ref_ptr = (0, 0); now = [] };
      rows = record { ref_ptr = (0, 0); now = rows };
    }

abbrev sight_of_steps : List Step → (loose : Bool) → Sight
sight_of_steps is loose =
    record { tree = tree; steps = record { ref_ptr = (0, 0); now = is }; is_loose = loose }

abbrev sight : (loose : Bool) → Sight
sight loose = sight_of_steps [] loose

abbrev site : Site
site = record { sight = sight true; function = span_of 0 22 }

abbrev hole : ℕ → Sort → Step
hole h s = step.Leaf (leaf.Hole h s)

-- what two holes stand for, and what is told, of each way
abbrev ways : List Binds → List (Option ℕ × Option ℕ × Option ℕ)
ways bs = map (λ b. (hole_of b 0, hole_of b 1, b.told)) bs

abbrev at : (loose : Bool) → List Step → (index : ℕ) → List (Option ℕ × Option ℕ × Option ℕ)
at loose is index = ways (fits_at (sight loose) is index nothing_bound)

abbrev first_told : Step
first_told = step.Told spot.First

abbrev maker_told : Step
maker_told = step.Told spot.Maker

abbrev binary : BinOp → Step
binary o = step.Tree (kind.Node (node.Binary o))

-- $0 + $1, with the operator told, at each branch: at x + 1 alone
abbrev sum : List Step
sum = binary op.Add ∷ maker_told ∷ hole 1 sort.Any ∷ hole 0 sort.Any ∷ step.Done ∷ step.Done ∷ []

abbrev rooted : (index : ℕ) → Binds
rooted index = with_hole (with_hole nothing_bound ROOT index) 0 index

abbrev place : (start len : ℕ) → TokenPlace
place start len = record { line = 1; start = start; len = len }

-- Claims: $0 is x, at the steps from 0 on; some branch of the function is, at those from 3 on a call.
abbrev steps : List Step
steps =
    step.Jump 0 ∷ step.Leaf (leaf.Name (120 ∷ []) 1) ∷ step.Done ∷ step.Tree (kind.Node node.Called) ∷ step.Dots
    ∷ step.Done ∷ step.Done ∷ []

abbrev site_with : Site
site_with = record { sight = sight_of_steps steps true; function = span_of 0 22 }

abbrev held : List Claim → (index : ℕ) → List (Option ℕ × Option ℕ × Option ℕ)
held cs index = ways (holds_in site_with 0 cs (with_hole nothing_bound 0 index))

abbrev fails : Claim
fails = claim.Test (test.Quiet 3)

abbrev rule : (number pattern condition : ℕ) → Rule
rule number pattern condition =
    record {
      number = number;
      pattern = pattern;
      condition = condition;
      named = 0;
      beside = NO_HOLE;
      is_loose = true;
      looks_around = false;
      looks_far = false;
    }

abbrev told_notice : Notice → ℕ × ℕ
told_notice n = (n.rule, n.token)

-- Small rows of branches, and trees of them.
abbrev part : Kind → (token first last begin index : ℕ) → Branch
part k token first last begin index =
    record {
      kind = k;
      token = token;
      first = first;
      last = last;
      begin = begin;
      core = index;
      acts = false;
      loops = 0;
    }

abbrev alone : Node → (token index : ℕ) → Branch
alone n token index = part (kind.Node n) token token token index index

abbrev over : Kind → (begin index : ℕ) → Branch
over k begin index = part k index begin index begin index

abbrev placed : (text : List ℕ) → List Lexeme → List TokenPlace → List Branch → Tree
placed text ls ps bs =
    record {
      text = record { ref_ptr = (0, 0); now = text };
      lexemes = record { ref_ptr = (0, 0); now = ls };
      places = record { ref_ptr = (0, 0); now = ps };
      rows = record { ref_ptr = (0, 0); now = bs };
    }

abbrev site_in : Tree → (begin end : ℕ) → Site
site_in t begin end =
    record {
      sight = record { tree = t; steps = record { ref_ptr = (0, 0); now = [] }; is_loose = true };
      function = span_of begin end;
    }

abbrev letter : ℕ → Lexeme
letter n = lexeme.Name (n ∷ [])

-- "", 'A', 65, a, 66 and "" once more
abbrev few : Tree
few =
    placed [] (lexeme.String ∷ lexeme.Character 65 ∷ lexeme.Number 65 ∷ letter 97 ∷ lexeme.Number 66
    ∷ lexeme.String ∷ []) []
    (alone node.Text 0 0 ∷ alone node.Constant 1 1 ∷ alone node.Constant 2 2 ∷ alone node.Name 3 3
    ∷ alone node.Constant 4 4 ∷ alone node.Text 5 5 ∷ alone node.Name 2 6 ∷ [])

-- Which sorts they are. What is no constant is no number, even with such a token.
sorts_of_few : map (λ (s : Sort). map (λ index. length (fits_at (site_in few 0 6).sight (hole 0 s ∷ step.Done
    ∷ []) index
    nothing_bound)) (range_with_len 0 7)) (sort.Text ∷ sort.Number ∷ sort.Character ∷ sort.Constant ∷ sort.Name ∷ [])
    ≡ (1 ∷ 0 ∷ 0 ∷ 0 ∷ 0 ∷ 1 ∷ 0 ∷ []) ∷ (0 ∷ 0 ∷ 1 ∷ 0 ∷ 1 ∷ 0 ∷ 0 ∷ []) ∷ (0 ∷ 1 ∷ 0 ∷ 0 ∷ 0 ∷ 0 ∷ 0 ∷ [])
    ∷ (0 ∷ 1 ∷ 1 ∷ 0 ∷ 1 ∷ 0 ∷ 0 ∷ []) ∷ (0 ∷ 0 ∷ 0 ∷ 1 ∷ 0 ∷ 0 ∷ 1 ∷ []) ∷ []
sorts_of_few = refl

-- no string is the same as another one, nor as itself; a character is the same as a number of its value
same_leaves : map (λ m. map (is_same few m) (range_with_len 0 6)) (0 ∷ 1 ∷ 2 ∷ 3 ∷ 4 ∷ [])
    ≡ replicate 6 false ∷ (false ∷ true ∷ true ∷ false ∷ false ∷ false ∷ []) ∷ (false ∷ true ∷ true ∷ false ∷ false
    ∷ false ∷ [])
    ∷ (false ∷ false ∷ false ∷ true ∷ false ∷ false ∷ []) ∷ (false ∷ false ∷ false ∷ false ∷ true ∷ false ∷ []) ∷ []
same_leaves = refl

same_lexemes : map (λ l. map (is_same_lexeme l) (lexeme.Number 65 ∷ lexeme.Character 65 ∷ letter 65 ∷ lexeme.String
    ∷ []))
    (lexeme.Number 65 ∷ lexeme.Character 65 ∷ letter 65 ∷ lexeme.String ∷ lexeme.Number 66 ∷ [])
    ≡ replicate 2 (true ∷ true ∷ false ∷ false ∷ []) ++ (false ∷ false ∷ true ∷ false ∷ [])
    ∷ replicate 2 (replicate 4 false)
same_lexemes = refl

-- a + 1 and, from branch 5, 8, 11 and 14 on, a + 1, b + 1, a + 2 and a - 1; and ; and ; ; in braces
abbrev sums_in_row : Tree
sums_in_row =
    placed [] (letter 97 ∷ letter 98 ∷ lexeme.Number 1 ∷ lexeme.Number 2 ∷ []) []
    (alone node.Name 0 0 ∷ alone node.Constant 2 1 ∷ over (kind.Node (node.Binary op.Add)) 0 2 ∷ alone node.Name 0 3
    ∷ alone node.Constant 2 4 ∷ over (kind.Node (node.Binary op.Add)) 3 5 ∷ alone node.Name 1 6
    ∷ alone node.Constant 2 7
    ∷ over (kind.Node (node.Binary op.Add)) 6 8 ∷ alone node.Name 0 9 ∷ alone node.Constant 3 10
    ∷ over (kind.Node (node.Binary op.Add)) 9 11 ∷ alone node.Name 0 12 ∷ alone node.Constant 2 13
    ∷ over (kind.Node (node.Binary op.Sub)) 12 14 ∷ over (kind.Construct construct.Plain) 15 15
    ∷ over (kind.Construct construct.Block) 15 16 ∷ over (kind.Construct construct.Plain) 17 17
    ∷ over (kind.Construct construct.Plain) 18 18 ∷ over (kind.Construct construct.Block) 17 19 ∷ [])

same_sums : map (is_same sums_in_row 2) (2 ∷ 5 ∷ 8 ∷ 11 ∷ 14 ∷ 1 ∷ []) ++ map (is_same sums_in_row 16) (16 ∷ 19 ∷ [])
    ≡ true ∷ true ∷ replicate 4 false ++ true ∷ false ∷ []
same_sums = refl

-- x = x + 1 changes x, not 1, nor what a hole stands for that stands for nothing; x + 1 changes nothing
changing : map (λ (b : Binds). map (λ index. length (fits_at (sight true) (step.Leaf (leaf.Change 0)
    ∷ step.Done ∷ []) index b))
    (17 ∷ 16 ∷ 14 ∷ [])) (with_hole nothing_bound 0 14 ∷ with_hole nothing_bound 0 15 ∷ nothing_bound ∷ [])
    ≡ (1 ∷ 0 ∷ 0 ∷ []) ∷ replicate 2 (replicate 3 0)
changing = refl

-- ; and return; and a; and return a; and {}
abbrev words_in_row : Tree
words_in_row =
    placed [] (lexeme.Semicolon ∷ lexeme.Keyword keyword.Return ∷ letter 97 ∷ []) []
    (over (kind.Construct construct.Plain) 0 0 ∷ over (kind.Construct construct.Plain) 1 1 ∷ alone node.Name 2 2
    ∷ part (kind.Construct construct.Plain) 2 2 2 2 3 ∷ alone node.Name 2 4
    ∷ part (kind.Construct construct.Plain) 1 1 2 4 5
    ∷ part (kind.Construct construct.Block) 0 0 0 6 6 ∷ part (kind.Node (node.Binary op.Add)) 2 1 2 7 7 ∷ [])

words_alone : map (λ w. map (λ index. length (fits_at (site_in words_in_row 0 7).sight
    (step.Leaf (leaf.Word w) ∷ step.Done ∷ []) index nothing_bound)) (0 ∷ 1 ∷ 2 ∷ 3 ∷ 5 ∷ 6
    ∷ [])) (word.Nothing ∷ word.Return ∷ [])
    ≡ (1 ∷ replicate 5 0) ∷ (0 ∷ 1 ∷ replicate 4 0) ∷ []
words_alone = refl

-- the word with which a branch begins: its first token, not the one that makes it
begun_with : map (λ w. map (λ (index : ℕ). begins_with words_in_row (Some index) w) (0 ∷ 1 ∷ 3 ∷ 5 ∷ 7
    ∷ [])) (word.Nothing ∷ word.Return ∷ word.Break ∷ [])
    ≡ (true ∷ replicate 4 false) ∷ (false ∷ true ∷ false ∷ true ∷ true ∷ []) ∷ replicate 5 false ∷ []
begun_with = refl

-- of the call f((x),1) its first token is told, not its bracket
told_first : at true (first_told ∷ hole 0 sort.Any ∷ step.Done ∷ []) 9 ≡ (Some 9, None, Some 9) ∷ []
told_first = refl

-- of (x) the x, or, where the rule is exact, the parenthesis
told_in_parentheses : map (λ (loose : Bool). at loose (first_told ∷ hole 0 sort.Any ∷ step.Done ∷ []) 7)
    (true ∷ false ∷ []) ≡ ((Some 6, None, Some 12) ∷ []) ∷ ((Some 7, None, Some 11) ∷ []) ∷ []
told_in_parentheses = refl

-- of three that are told the one that is fitted last, which stands first
told_last : at true (binary op.Add ∷ maker_told ∷ first_told ∷ hole 1 sort.Any ∷ first_told
    ∷ hole 0 sort.Any ∷ step.Done ∷ step.Done ∷ []) 16
    ≡ (Some 14, Some 15, Some 20) ∷ []
told_last = refl

-- Where two features meet. A branch with this in its parentheses, or itself.
abbrev around : Kind → (token begin core : ℕ) → Branch
around k token begin core =
    record { kind = k; token = token; first = token; last = token; begin = begin; core = core; acts = false; loops = 0 }

abbrev plain : Node → (token index : ℕ) → Branch
plain n token index = around (kind.Node n) token index index

abbrev sight_in : List Lexeme → List Branch → (loose : Bool) → Sight
sight_in ls bs loose =
    record { tree = placed [] ls [] bs; steps = record { ref_ptr = (0, 0); now = [] }; is_loose = loose }

-- (!((a < b))) is a >= b, at the ! and at the parentheses around it, for a rule that is loose alone
abbrev denied_in_two : List Branch
denied_in_two =
    plain node.Name 4 0 ∷ plain node.Name 6 1 ∷ around (kind.Node (node.Binary op.Lt)) 5 0 2
    ∷ around (kind.Node node.Grouped) 3 0 2 ∷ around (kind.Node node.Grouped) 2 0 2 ∷ around (kind.Node node.Not) 1 0 5
    ∷ around (kind.Node node.Grouped) 0 0 5 ∷ []

denied_twice : map (λ (loose : Bool). map (λ (index : ℕ). ways (fits_at (sight_in [] denied_in_two loose)
    (step.Sides (kind.Node (node.Binary op.Ge)) (kind.Node (node.Binary op.Ge)) true ∷ hole 1 sort.Any ∷ step.Done
    ∷ hole 0 sort.Any ∷ step.Done ∷ step.Done ∷ []) index nothing_bound)) (2 ∷ 3 ∷ 4 ∷ 5 ∷ 6 ∷ [])) (true ∷ false ∷ [])
    ≡ (replicate 3 [] ++ replicate 2 ((Some 0, Some 1, Some 5) ∷ [])) ∷ replicate 5 [] ∷ []
denied_twice = refl

-- a > b & b, but not a > b & a, is $0 < $1 & $0: the hole that comes twice is b, in whichever order the sides stand
abbrev compared_and : (name : ℕ) → (loose : Bool) → Sight
compared_and name =
    sight_in (letter 97 ∷ lexeme.Operator op.Gt ∷ letter 98 ∷ lexeme.Operator op.And ∷ letter name ∷ [])
    (plain node.Name 0 0 ∷ plain node.Name 2 1 ∷ around (kind.Node (node.Binary op.Gt)) 1 0 2 ∷ plain node.Name 4 3
    ∷ around (kind.Node (node.Binary op.And)) 3 0 4 ∷ [])

swapped_twice : map (λ (of : ℕ × Bool). ways (fits_at (compared_and of.0 of.1)
    (step.Sides (kind.Node (node.Binary op.And)) (kind.Node (node.Binary op.And)) true ∷ hole 0 sort.Any ∷ step.Done
    ∷ step.Sides (kind.Node (node.Binary op.Lt)) (kind.Node (node.Binary op.Lt)) false ∷ hole 1 sort.Any ∷ step.Done
    ∷ hole 0 sort.Any ∷ step.Done ∷ step.Done ∷ step.Done ∷ []) 4 nothing_bound))
    ((98, true) ∷ (97, true) ∷ (98, false) ∷ (97, false) ∷ []) ≡ ((Some 3, Some 0, Some 3) ∷ []) ∷ replicate 3 []
swapped_twice = refl

-- if(a) if(b) c; else d; has its else in the inner if
else_of_inner : map (λ (index : ℕ). ways (fits_at (sight_in [] (plain node.Name 2 0
    ∷ around (kind.Node node.Tested) 0 0 1 ∷ plain node.Name 6 2 ∷ around (kind.Node node.Tested) 4 2 3
    ∷ around (kind.Construct construct.Plain) 8 4 4 ∷ part (kind.Construct construct.Plain) 12 11 13 5 5
    ∷ around (kind.Construct construct.If) 4 2 6 ∷ around (kind.Construct construct.If) 0 0 7 ∷ []) true)
    (step.Tree (kind.Construct construct.If) ∷ step.Told spot.Else ∷ hole 2 sort.Any ∷ hole 1 sort.Any
    ∷ step.Tree (kind.Node node.Tested) ∷ hole 0 sort.Any ∷ step.Done ∷ step.Done ∷ step.Done ∷ [])
    index nothing_bound)) (6 ∷ 7 ∷ []) ≡ ((Some 2, Some 4, Some 10) ∷ []) ∷ [] ∷ []
else_of_inner = refl

-- nothing is before x + 1 in itself, where x = stands before it; and past the last branch is none
no_more_rows : at true (binary op.Add ∷ hole 1 sort.Any ∷ hole 0 sort.Any
    ∷ step.Tree (kind.Node node.Name)
    ∷ step.Done ∷ step.Done ∷ step.Done ∷ []) 16 ++ at true (hole 0 sort.Any ∷ step.Done ∷ []) 22 ≡ []
no_more_rows = refl

no_span : hole_span site (Some 21) ∷ hole_span site (Some 22) ∷ hole_span site None ∷ [] ≡ span_of 0 22
    ∷ replicate 2 (span_of 0 0)
no_span = refl

bound_again : hole_of (with_hole (with_hole nothing_bound 3 7) 3 8) 3 ≡ Some 8
bound_again = refl

no_root : root_of nothing_bound ≡ 0
no_root = refl

-- a switch with a loop with a loop in it; and at the end a loop with one name, and one around all, past the function
abbrev nested : Tree
nested =
    placed [] [] []
    (alone node.Name 0 0 ∷ alone node.Name 0 1 ∷ alone node.Name 0 2 ∷ alone node.Name 0 3
    ∷ over (kind.Construct construct.While) 2 4 ∷ over (kind.Construct construct.While) 1 5
    ∷ over (kind.Construct construct.Switch) 0 6 ∷ alone node.Name 0 7 ∷ over (kind.Construct construct.While) 7 8
    ∷ over (kind.Construct construct.While) 0 9 ∷ [])

-- the innermost loop around, if there is one in the function; a switch is none
loops_around : map (loop_around (site_in nested 0 9)) (range_with_len 0 9)
    ≡ None ∷ Some 5 ∷ Some 4 ∷ Some 4 ∷ Some 5 ∷ None ∷ None ∷ Some 8 ∷ None ∷ []
loops_around = refl

loops_as_scopes : map (λ index. scope_span (site_in nested 0 9) scope.Loop (rooted index)) (3 ∷ 1 ∷ 0 ∷ [])
    ≡ span_of 2 5 ∷ span_of 1 6 ∷ span_of 0 0 ∷ []
loops_as_scopes = refl

-- Three functions of the names b c d, f g h with the last two in a block, and k. No branch has the number of its token.
abbrev three : Tree
three =
    placed [] (map letter (range_with_len 97 13)) []
    (alone node.Name 1 0 ∷ alone node.Name 2 1 ∷ alone node.Name 3 2 ∷ part (kind.Construct construct.Definition) 1 1
    3 0 3
    ∷ alone node.Name 5 4 ∷ alone node.Name 6 5 ∷ alone node.Name 7 6 ∷ part (kind.Construct construct.Block) 6 6 7 5 7
    ∷ part (kind.Construct construct.Definition) 5 5 7 4 8 ∷ alone node.Name 10 9
    ∷ part (kind.Construct construct.Definition) 10 10 10 9 10 ∷ [])

functions_of_three : functions_in three ≡ span_of 0 4 ∷ span_of 4 9 ∷ span_of 9 11 ∷ []
functions_of_three = refl

-- from where to where each scope of x goes in the second function
spans_of_second : map (λ c. scope_span (site_in three 4 9) c (rooted 5)) (scope.Program ∷ scope.Definitions
    ∷ scope.Function ∷ scope.Before
    ∷ scope.After ∷ scope.Around ∷ []) ≡ replicate 2 (span_of 0 11) ++ span_of 4 9 ∷ span_of 4 5
    ∷ replicate 2 (span_of 5 9)
spans_of_second = refl

-- what begins with x is around it, and not after it
around_second : map (λ c. map (is_within (site_in three 4 9) c (rooted 5)) (range_with_len 4 5)) (scope.After
    ∷ scope.Around ∷ [])
    ≡ (false ∷ false ∷ true ∷ false ∷ false ∷ []) ∷ (false ∷ false ∷ false ∷ true ∷ true ∷ []) ∷ []
around_second = refl

-- each x of the function, in the order of the branches, and x alone in itself
each_x : held (claim.Some scope.Function 1 0 ∷ claim.End ∷ []) 14 ++ held (claim.Some (scope.Hole 0) 1 0
    ∷ claim.End ∷ []) 14
    ≡ map (λ (i : ℕ). (Some 14, Some i, None)) (1 ∷ 2 ∷ 6 ∷ 7 ∷ 13 ∷ 14 ∷ 14 ∷ [])
each_x = refl

-- what is claimed after it is asked, too
sought_and_fails : held (claim.Some scope.Function 1 0 ∷ fails ∷ claim.End ∷ []) 14 ≡ []
sought_and_fails = refl

-- of two that hold, the first one's way comes first
either_held : held (claim.Either 2 ∷ claim.Some (scope.Hole 0) 1 0 ∷ claim.End ∷ claim.End ∷ []) 14
    ≡ (Some 14, Some 14, None) ∷ (Some 14, None, None) ∷ []
either_held = refl

-- a test that x passes, and the call doesn't; and what is claimed after it
test_held : map (λ cs. map (λ index. length (held cs index)) (14 ∷ 9 ∷ []))
    ((claim.Test (test.Quiet 0) ∷ claim.End ∷ []) ∷ (claim.Test (test.Quiet 0) ∷ fails ∷ claim.End ∷ []) ∷ [])
    ≡ (1 ∷ 0 ∷ []) ∷ (0 ∷ 0 ∷ []) ∷ []
test_held = refl

-- f: a=1; a=2; a++;   g: a; a;
abbrev set_twice : Tree
set_twice =
    placed [] (letter 102 ∷ letter 97 ∷ lexeme.Number 1 ∷ lexeme.Number 2 ∷ letter 103 ∷ []) []
    (alone node.Name 0 0 ∷ alone node.Name 1 1 ∷ alone node.Constant 2 2 ∷ over (kind.Node (node.Assigned None)) 1 3
    ∷ alone node.Name 1 4 ∷ alone node.Constant 3 5 ∷ over (kind.Node (node.Assigned None)) 4 6 ∷ alone node.Name 1 7
    ∷ over (kind.Node node.PostIncrement) 7 8 ∷ over (kind.Construct construct.Definition) 0 9 ∷ alone node.Name 4 10
    ∷ alone node.Name 1 11 ∷ alone node.Name 1 12 ∷ over (kind.Construct construct.Definition) 10 13 ∷ [])

abbrev set_to : (value begin end : ℕ) → Site
set_to value begin end =
    record {
      sight = record {
        tree = set_twice;
        steps = record {
          ref_ptr = (0, 0);
          now = step.Tree (kind.Node (node.Assigned None)) ∷ step.Leaf (leaf.Value value)
              ∷ hole 1 sort.Any ∷ step.Done ∷ step.Done ∷ [];
        };
        is_loose = true;
      };
      function = span_of begin end;
    }

abbrev begun_as : (value begin end root name : ℕ) → List Claim → List (Option ℕ × Option ℕ × Option ℕ)
begun_as value begin end root name cs =
    ways (holds_in (set_to value begin end) 0 cs (with_hole (with_hole nothing_bound ROOT root) 0 name))

-- The last change before a++ is a=2, not a=1 and not a++ itself. In the other function there is none, nor before a=1.
begun_by_last : begun_as 2 0 10 8 7 (claim.Begun 0 0 ∷ claim.End ∷ []) ++ begun_as 1 0 10 8 7 (claim.Begun 0 0
    ∷ claim.End ∷ [])
    ++ begun_as 2 10 14 12 11 (claim.Begun 0 0 ∷ claim.End ∷ []) ++ begun_as 1 0 10 3 1 (claim.Begun 0 0
    ∷ claim.End ∷ [])
    ++ begun_as 2 0 10 8 7 (claim.Begun 0 0 ∷ fails ∷ claim.End ∷ []) ≡ (Some 7, Some 4, None) ∷ []
begun_by_last = refl

-- the first branch of a span counts, and none before it
changes_in_span : map (λ begin. change_before (site_in set_twice begin 10) 1 6) (0 ∷ 3 ∷ 4 ∷ 10 ∷ [])
    ++ change_before (site_in set_twice 0 10) 1 9 ∷ []
    ≡ Some 3 ∷ Some 3 ∷ None ∷ None ∷ Some 8 ∷ []
changes_in_span = refl

-- (f(x)), whose call counts; and a row without an end, of which no more than so many count
arguments_grouped : arguments_in (placed [] [] [] (alone node.Name 0 0 ∷ over (kind.Node node.NoArguments) 1 1
    ∷ alone node.Name 0 2
    ∷ over (kind.Node node.Called) 0 3 ∷ record (over (kind.Node node.Grouped) 0 4) { core = 3 } ∷ [])) (Some 4)
    ≡ Some 1
arguments_grouped = refl

abbrev endless : Tree
endless = placed [] [] [] (over (kind.Node node.Name) 1 0 ∷ over (kind.Node node.Called) 0 1
    ∷ over (kind.Node node.Name) 1 2 ∷ [])

most_arguments : arguments_in endless (Some 1) ∷ place_in endless (Some 2) (Some 1) ∷ [] ≡ Some 127 ∷ Some 128 ∷ []
most_arguments = refl

most_blanks : map (λ (n : ℕ). indent_at (replicate n 32) (Some (place n 1))) (0 ∷ 127 ∷ 128 ∷ []) ≡ Some 0
    ∷ Some 127 ∷ None ∷ []
most_blanks = refl

-- Three tokens: abc*d after a tab, = and, after a blank, e with a backslash and n. A branch is the last one alone, one
-- has all
-- three with = between, and one has = after what comes last.
abbrev spelled : Tree
spelled =
    placed (codes "\n\tabc*d= e\\nx") (lexeme.String ∷ lexeme.Operator op.Sub ∷ lexeme.String ∷ [])
    (record { line = 3; start = 2; len = 5 } ∷ record { line = 4; start = 7; len = 1 }
    ∷ record { line = 5; start = 9; len = 3 } ∷ [])
    (part (kind.Node node.Text) 2 2 2 0 0 ∷ part (kind.Node (node.Binary op.Sub)) 1 0 2 0 1
    ∷ part (kind.Node (node.Binary op.Sub)) 1 2 0 2 2 ∷ [])

placed_measures : map (λ h. map (λ m. measure_of spelled m (rooted h)) (measure.Bytes 0 ∷ measure.Letters 0
    ∷ measure.Line 0 ∷ measure.Indent 0
    ∷ measure.Token 0 ∷ [])) (1 ∷ 0 ∷ []) ≡ (Some 5 ∷ Some 2 ∷ Some 3 ∷ Some 8 ∷ Some 0 ∷ [])
    ∷ (Some 3 ∷ Some 1 ∷ Some 5 ∷ None ∷ Some 2 ∷ []) ∷ []
placed_measures = refl

abbrev passes_in : Tree → Test → (one other told : ℕ) → Bool
passes_in t it one other told =
    passes_test (site_in t 0 4) it (with_told (with_hole (with_hole nothing_bound 0 one) 1 other) true told)

-- a backslash and an n in the first token alone counts; and what is told with the next one, or after an operator
placed_tests : map (λ h. passes_in spelled (test.Backslash 0) h 0 0) (1 ∷ 0 ∷ 2 ∷ [])
    ++ map (passes_in spelled test.Joined 0 0) (0 ∷ 1 ∷ 2 ∷ [])
    ++ map (passes_in spelled test.AfterOperator 0 0) (0 ∷ 1 ∷ 2 ∷ [])
    ≡ false ∷ true ∷ true ∷ true ∷ false ∷ false ∷ false ∷ false ∷ true ∷ []
placed_tests = refl

-- v[2] 1,3,5,7;  g(){auto w 4;}  u[] -9,8;
abbrev vectors : Tree
vectors =
    placed [] (letter 118 ∷ lexeme.OpenBracket ∷ lexeme.Number 2 ∷ lexeme.CloseBracket ∷ lexeme.Number 1 ∷ lexeme.Comma
    ∷ lexeme.Number 3 ∷ lexeme.Comma ∷ lexeme.Number 5 ∷ lexeme.Comma ∷ lexeme.Number 7 ∷ lexeme.Semicolon ∷ letter 103
    ∷ lexeme.OpenParen ∷ lexeme.CloseParen ∷ lexeme.OpenBrace ∷ lexeme.Keyword keyword.Auto ∷ letter 119
    ∷ lexeme.Number 4
    ∷ lexeme.Semicolon ∷ lexeme.CloseBrace ∷ letter 117 ∷ lexeme.OpenBracket ∷ lexeme.CloseBracket
    ∷ lexeme.Operator op.Sub
    ∷ lexeme.Number 9 ∷ lexeme.Comma ∷ lexeme.Number 8 ∷ lexeme.Semicolon ∷ []) []
    (alone node.Name 0 0 ∷ alone node.Constant 2 1 ∷ alone node.Constant 4 2 ∷ alone node.Constant 6 3
    ∷ alone node.Constant 8 4
    ∷ alone node.Constant 10 5 ∷ over (kind.Construct construct.Definition) 0 6 ∷ alone node.Name 12 7
    ∷ alone node.Name 17 8
    ∷ over (kind.Construct construct.Definition) 7 9 ∷ alone node.Name 21 10 ∷ alone node.Constant 24 11
    ∷ alone node.Constant 27 12
    ∷ over (kind.Construct construct.Definition) 10 13 ∷ [])

-- four values, though the index is 2; the index 4; two values and no index; no vector
sizes_of_vectors : map (λ h. measure_of vectors (measure.Size 0) (rooted h)) (0 ∷ 8 ∷ 10 ∷ 7 ∷ [])
    ≡ Some 4 ∷ Some 5 ∷ Some 2 ∷ None ∷ []
sizes_of_vectors = refl

given_after_names : map (λ h. measure_of vectors (measure.Given 0) (rooted h)) (8 ∷ 0 ∷ 11 ∷ []) ≡ Some 4 ∷ None
    ∷ Some 9 ∷ []
given_after_names = refl

-- after the name, up to the ; and not the token itself
negatives_after : map (λ h. passes_in vectors (test.Negative 0) h 0 0) (0 ∷ 8 ∷ 10 ∷ 11 ∷ []) ≡ false ∷ false
    ∷ true ∷ false ∷ []
negatives_after = refl

-- of 7, 2 and 3: each number that is made of several values, in their order
abbrev values : Measure → Option ℕ
values m =
    measure_of (placed [] (lexeme.Number 7 ∷ lexeme.Number 2 ∷ lexeme.Number 3 ∷ []) []
    (alone node.Constant 0 0 ∷ alone node.Constant 1 1 ∷ alone node.Constant 2 2 ∷ [])) m
    (with_hole (with_hole (with_hole nothing_bound 0 0) 1 1) 2 2)

made_of_values : map values (measure.Remainder 0 1 ∷ measure.Remainder 1 0 ∷ measure.Sum 0 1 ∷ measure.Product 0 1
    ∷ measure.Room 0
    ∷ measure.Room 1 ∷ measure.Remains 0 1 2 ∷ measure.Remains 2 1 0 ∷ measure.Remains 1 0 2 ∷ [])
    ≡ Some 1 ∷ Some 2 ∷ Some 9 ∷ Some 14 ∷ Some 15 ∷ Some 5 ∷ Some 2 ∷ Some 1 ∷ Some 2 ∷ []
made_of_values = refl

-- in small: which of two holes a test speaks of first, and each test that no other fact passes
tests_of_two : map (λ t. map (λ h. passes_in tree t h 16 22) (13 ∷ 14 ∷ 17 ∷ 0 ∷ []))
    (test.Inside 0 1 ∷ test.Inside 1 0 ∷ test.Precedes 0 1 ∷ test.Precedes 1 0 ∷ test.Dropped 0 ∷ test.Defines 0
    ∷ test.Spelled 0 (120 ∷ 121 ∷ []) 1 ∷ test.Spelled 0 (120 ∷ 121 ∷ []) 2
    ∷ test.Compares (measure.Token 0) relation.Less (measure.Token 1) ∷ [])
    ≡ (false ∷ true ∷ false ∷ false ∷ []) ∷ (false ∷ false ∷ true ∷ false ∷ []) ∷ (true ∷ false ∷ false ∷ true ∷ [])
    ∷ replicate 4 false ∷ (false ∷ false ∷ true ∷ false ∷ []) ∷ (false ∷ false ∷ false ∷ true ∷ [])
    ∷ (true ∷ true ∷ false ∷ false ∷ []) ∷ replicate 4 false ∷ (true ∷ false ∷ true ∷ true ∷ []) ∷ []
tests_of_two = refl

begins_as_test : map (λ h. passes_in words_in_row (test.Begins 0 word.Return) h 0 0) (1 ∷ 3 ∷ 5 ∷ []) ≡ true
    ∷ false ∷ true ∷ []
begins_as_test = refl

after_operators : map (λ n. passes_in tree test.AfterOperator 0 0 n) (20 ∷ 21 ∷ 22 ∷ 23 ∷ []) ≡ false ∷ false
    ∷ true ∷ false ∷ []
after_operators = refl

headings : map (λ (c : Construct). is_heading (placed [] [] [] (alone node.Name 0 0 ∷ over (kind.Construct c) 1 1
    ∷ [])) (Some 1)) constructs
    ≡ replicate 6 false ++ true ∷ replicate 2 false
headings = refl

-- no two signs have one number
sign_numbers : map sign_number (lexeme.OpenBrace ∷ lexeme.CloseBrace ∷ lexeme.OpenParen ∷ lexeme.CloseParen
    ∷ lexeme.OpenBracket
    ∷ lexeme.CloseBracket ∷ lexeme.Semicolon ∷ lexeme.Comma ∷ []) ++ map (λ o. sign_number (lexeme.Operator o))
    operators
    ++ map sign_number (lexeme.Colon ∷ lexeme.Question ∷ lexeme.Assign None ∷ lexeme.Number 1 ∷ lexeme.End ∷ [])
    ≡ range_with_len 1 8 ++ range_with_len 10 15 ++ replicate 5 0
sign_numbers = refl

-- the second function's own name, and the names after it
own_name_of_second : map (λ it. map (λ h. passes_test (site_in three 4 9) it (rooted h)) (0 ∷ 4 ∷ 1 ∷ 5
    ∷ [])) (test.OwnName 0 ∷ test.Parameter 0 ∷ [])
    ≡ (false ∷ true ∷ false ∷ false ∷ []) ∷ (false ∷ false ∷ false ∷ true ∷ []) ∷ []
own_name_of_second = refl

-- Rules: any name of a sum with what is added as the second place, strictly, in two ways; the definition itself; each x
abbrev sum_rule : Rule
sum_rule =
    record {
      number = 1;
      pattern = 0;
      condition = 0;
      named = 0;
      beside = 1;
      is_loose = true;
      looks_around = false;
      looks_far = false;
    }

abbrev table_of : List Step → List Rule → RuleTable
table_of is rs =
    record {
      steps = record { ref_ptr = (0, 0); now = is };
      claims = record { ref_ptr = (0, 0); now = claim.End ∷ [] };
      rules = record { ref_ptr = (0, 0); now = rs };
    }

abbrev notice : (number token : ℕ) → (named beside : Option ℕ) → Notice
notice number token named beside = record { rule = number; token = token; named = named; beside = beside }

-- the names of a notice, and one notice for each way
whole_notice : notices_by tree (table_of (binary op.Add ∷ maker_told ∷ step.Either 2 ∷ hole 1 sort.Any ∷ step.Jump 1
    ∷ hole 2 sort.Any
    ∷ hole 0 sort.Any ∷ step.Done ∷ step.Done ∷ []) (sum_rule ∷ []))
    ≡ notice 1 21 (Some 20) (Some 22) ∷ notice 1 21 (Some 20) None ∷ []
whole_notice = refl

-- x in parentheses is a name for a loose rule, and for no other
strict_notices : map (λ (loose : Bool). map told_notice (notices_by tree (table_of (hole 0 sort.Name
    ∷ step.Done ∷ [])
    (record sum_rule { is_loose = loose } ∷ [])))) (true ∷ false ∷ [])
    ≡ map (map (λ (n : ℕ). (1, n))) ((0 ∷ 2 ∷ 7 ∷ 9 ∷ 12 ∷ 11 ∷ 18 ∷ 20 ∷ []) ∷ (0 ∷ 2 ∷ 7 ∷ 9 ∷ 12 ∷ 18 ∷ 20 ∷ [])
    ∷ [])
strict_notices = refl

-- each rule in each function, in the order of the rules, then of the functions: of each name, and of each definition
in_order : map told_notice (notices_by three (table_of (hole 0 sort.Name ∷ step.Done
    ∷ step.Tree (kind.Construct construct.Definition) ∷ step.Dots ∷ step.Done ∷ step.Done ∷ [])
    (sum_rule ∷ record sum_rule { number = 2; pattern = 2 } ∷ [])))
    ≡ map (λ (n : ℕ). (1, n)) (1 ∷ 2 ∷ 3 ∷ 5 ∷ 6 ∷ 7 ∷ 10 ∷ []) ++ map (λ (n : ℕ). (2, n)) (1 ∷ 5 ∷ 10 ∷ [])
unfolding ends_of
in_order = refl

-- at the limit of branches a rule that looks around is asked, and past it none; any other one always
passed_over : map (λ (around : Bool). map (λ (n : ℕ). is_passed_over tree (record sum_rule { looks_around = around })
    (span_of 3 n))
    ((3 + MOST_BRANCHES) ∷ (4 + MOST_BRANCHES) ∷ [])) (true ∷ false ∷ []) ≡ (false ∷ true ∷ []) ∷ (false ∷ false
    ∷ []) ∷ []
passed_over = refl

abbrev long : (count : ℕ) → Tree
long count = placed [] [] [] (replicate count (alone node.Name 0 0))

passed_over_far : map (λ (far : Bool). map (λ (n : ℕ). is_passed_over (long n) (record sum_rule { looks_far = far })
    (span_of 0 1))
    (MOST_IN_ALL ∷ suc MOST_IN_ALL ∷ [])) (true ∷ false ∷ []) ≡ (false ∷ true ∷ []) ∷ (false ∷ false ∷ []) ∷ []
passed_over_far = refl

-- a short function is looked at by a rule that looks around
looked_around : length (function_notices tree (table_of (hole 0 sort.Name ∷ step.Done
    ∷ []) []) (record sum_rule { looks_around = true })
    (span_of 0 3)) ∷ [] ≡ 3 ∷ []
looked_around = refl

-- over 999 branches .. goes to their begin, and over 1000 no more
dots_end : map (λ (n : ℕ). length (fits_in (site_in (placed [] [] [] (map (λ i. alone node.Name 0 i) (range_with_len
    0 n))) 0 n).sight 0
    (step.Dots ∷ step.Done ∷ []) 0 n [] nothing_bound)) (999 ∷ 1000 ∷ []) ≡ 1 ∷ 0 ∷ []
unfolding ends_of
dots_end = refl

-- (*a)++ and (*a) = b change *a, without its parentheses
changes_of_stars : map (λ k. changed_by (alone node.Name 0 0 ∷ over (kind.Node node.Indirection) 0 1
    ∷ record (over (kind.Node node.Grouped) 0 2) { core = 1 } ∷ over k 0 3 ∷ []) 3) (map kind.Node (node.PostIncrement
    ∷ node.PostDecrement ∷ node.PreIncrement ∷ node.PreDecrement ∷ [])) ++ changed_by (alone node.Name 0 0
    ∷ over (kind.Node node.Indirection) 0 1
    ∷ record (over (kind.Node node.Grouped) 0 2) { core = 1 } ∷ alone node.Name 0 3
    ∷ over (kind.Node (node.Assigned None)) 0 4 ∷ []) 4 ∷ []
    ≡ replicate 5 (Some 1)
changes_of_stars = refl

-- *(v + i) is v[i] where a rule is loose, and *(v - i) isn't
abbrev starred : BinOp → List Branch
starred o =
    alone node.Name 0 0 ∷ alone node.Name 0 1 ∷ over (kind.Node (node.Binary o)) 0 2
    ∷ record (over (kind.Node node.Grouped) 0 3) { core = 2 } ∷ over (kind.Node node.Indirection) 0 4 ∷ []

stars_for_indexes : map (λ (pair : Bool × BinOp). ways (fits_in (record (site_in (placed [] [] [] (starred pair.1)) 0 5).sight
    { is_loose = pair.0 }) 0 (step.Tree (kind.Node node.Indexed) ∷ hole 1 sort.Any ∷ hole 0 sort.Any
    ∷ step.Done ∷ step.Done ∷ []) 0 5 [] nothing_bound)) ((true, op.Add) ∷ (true, op.Sub) ∷ (false, op.Add) ∷ [])
    ≡ ((Some 0, Some 1, None) ∷ []) ∷ [] ∷ [] ∷ []
stars_for_indexes = refl

-- what stands for nothing passes no test
unbound_tests : map (λ t. passes_in tree t 14 14 14) (test.Quiet 3 ∷ test.Backslash 3 ∷ test.Begins 3 word.Nothing
    ∷ test.OwnName 3
    ∷ test.Parameter 3 ∷ test.Heading 3 ∷ test.Next 3 7 ∷ test.Spelled 3 [] 0 ∷ test.Defines 3 ∷ test.Negative 3
    ∷ test.Inside 3 0
    ∷ test.Inside 0 3 ∷ test.Precedes 3 0 ∷ test.Precedes 0 3 ∷ test.Dropped 3
    ∷ test.Compares (measure.Number 0) relation.Unequal (measure.Value 3) ∷ [])
    ≡ replicate 16 false
unbound_tests = refl

-- the sign after the last token of x, of x = x + 1 and of the call
next_signs : map (λ h. map (λ l. passes_in tree (test.Next 0 (sign_number l)) h 0 0) (lexeme.Operator op.Add
    ∷ lexeme.Semicolon ∷ lexeme.OpenParen ∷ []))
    (14 ∷ 17 ∷ 9 ∷ 0 ∷ []) ≡ (true ∷ false ∷ false ∷ []) ∷ replicate 2 (false ∷ true ∷ false ∷ []) ++ (false
    ∷ false ∷ true ∷ []) ∷ []
next_signs = refl

divided_by_one : rest_of (Some 7) (Some 3) (Some 1) ∷ remainder_of (Some 7) (Some 1) ∷ [] ≡ replicate 2 (Some 0)
divided_by_one = refl

-- past the end of a source stands no blank
blanks_past_end : blanks_at [] 3 0 128 ≡ None
blanks_past_end = refl

told_of_nothing : told_token tree nothing_bound ≡ 0
told_of_nothing = refl

-- a value is one of a constant alone
values_fit : map (λ index. length (fits_at (site_in few 0 6).sight (step.Leaf (leaf.Value 65) ∷ step.Done
    ∷ []) index nothing_bound))
    (range_with_len 0 7) ≡ 0 ∷ 1 ∷ 1 ∷ replicate 4 0
values_fit = refl

-- a + 1 in parentheses: for a loose rule a sum, with its own token; and parentheses are the same as parentheses
abbrev grouped_sum : Tree
grouped_sum =
    placed [] (letter 97 ∷ lexeme.Number 1 ∷ []) []
    (alone node.Name 0 0 ∷ alone node.Constant 1 1 ∷ part (kind.Node (node.Binary op.Add)) 7 5 8 0 2
    ∷ record (part (kind.Node node.Grouped) 4 4 9 0 3) { core = 2 } ∷ [])

sums_in_parentheses : map (λ (loose : Bool). ways (fits_at (record (site_in grouped_sum 0 4).sight {
  is_loose = loose;
}) sum 3 nothing_bound))
    (true ∷ false ∷ []) ≡ ((Some 0, Some 1, Some 7) ∷ []) ∷ [] ∷ []
sums_in_parentheses = refl

same_parentheses : is_same grouped_sum 3 3 ∷ is_same grouped_sum 2 3 ∷ [] ≡ true ∷ false ∷ []
same_parentheses = refl

-- each branch around x in x + 1, and each definition; each name of the second function alone
sought_around : map (λ c. map (λ (b : Binds). hole_of b 1) (holds_in site_with 0 (claim.Some c 1 4 ∷ claim.End
    ∷ []) (rooted 14)))
    (scope.Around ∷ scope.Definitions ∷ scope.After ∷ []) ≡ map (map Some) (range_with_len 16 6 ∷ (21 ∷ []) ∷ (15
    ∷ []) ∷ [])
unfolding ends_of
sought_around = refl

sought_in_second : map (λ (b : Binds). hole_of b 1) (holds_in (record (site_in three 4 9) {
  sight = record (site_in three 4 9).sight {
    steps = record { ref_ptr = (0, 0); now = hole 2 sort.Name ∷ step.Done ∷ [] };
  };
}) 0
    (claim.Some scope.Function 1 0 ∷ claim.End ∷ []) nothing_bound) ≡ map Some (4 ∷ 5 ∷ 6 ∷ [])
sought_in_second = refl

-- a=1; a=1; and what has the second one in it, before which the first one is
abbrev set_in_root : Site
set_in_root =
    record {
      sight = record {
        tree = placed [] (letter 97 ∷ lexeme.Number 1 ∷ []) []
            (alone node.Name 0 0 ∷ alone node.Constant 1 1 ∷ over (kind.Node (node.Assigned None)) 0 2
            ∷ alone node.Name 0 3
            ∷ alone node.Constant 1 4 ∷ over (kind.Node (node.Assigned None)) 3 5
            ∷ part (kind.Node node.Evaluated) 9 9 9 3 6 ∷ []);
        steps = (set_to 1 0 7).sight.steps;
        is_loose = true;
      };
      function = span_of 0 7;
    }

begun_before_root : ways (holds_in set_in_root 0 (claim.Begun 0 0 ∷ claim.End
    ∷ []) (with_hole (with_hole nothing_bound ROOT 6) 0 3))
    ≡ (Some 3, Some 0, None) ∷ []
begun_before_root = refl

-- around the last name in the inner loop: both loops and the switch, of which the inner loop is the next branch
around_inner : map (is_within (site_in nested 0 9) scope.Around (rooted 3)) (range_with_len 0 9)
    ≡ replicate 4 false ++ replicate 3 true ++ replicate 2 false
around_inner = refl
