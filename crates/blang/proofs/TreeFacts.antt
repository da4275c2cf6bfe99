-- Closed facts: trees that are well formed or not, and where a source stops being a program's.
use Rattle.std.proofs.Common.{◌≡◌, ◌≤◌, ℕ, zero, suc, true, false, List, [], ◌∷◌, map, codes, Option, None, Some}
use Rattle.std.proofs.Common.{refl, sym, subst, arith, inl, leb-true}
use Rattle.bword.specs.declared.operators.BinOp.TheVariants as op
use Rattle.blang.specs.declared.token.Token.{Token}
use Rattle.blang.specs.declared.token.Placed.{Placed}
use Rattle.blang.specs.declared.token.Diagnostic.{Diagnostic}
use Rattle.blang.specs.Trees.{Number, Negate, PostIncrement, Expr, Arguments, Literal, Text, Grouped, Indexed, Called}
use Rattle.blang.specs.Trees.{Postfixed, Prefixed, Binary, Conditional, Assigned, No_arguments, Another, Heading}
use Rattle.blang.specs.Trees.{Label, Stmt, Headed, Compound, If, IfElse, While, Switch, Goto, ReturnValue, Evaluate}
use Rattle.blang.specs.Trees.{Empty, Nothing, More, Ival_constant, Ival_text, Definition, Simple, Function}
use Rattle.blang.specs.WellFormed.{rvalue_rank, Binds, StatementBinds, IsFormed, IsViable, StopsAt, Parts, Parted}
use Rattle.blang.specs.Walk.{TextAt, levels_in, texts_in, walk, walk_statement, spell_definition}
use Rattle.blang.specs.Code.{string_words_of}

abbrev one : Expr
one = Literal (Number 1)

abbrev minus : Expr → Expr → Expr
minus e f = Binary op.Sub 1 e f

abbrev times : Expr → Expr → Expr
times e f = Binary op.Mul 1 e f

-- 1-1-1 binds to the left, and not to the right
pub binds_left : Binds (minus (minus one one) one) rvalue_rank
binds_left = (leb-true _ _ refl, (leb-true _ _ refl, tt, tt), tt)

pub binds_right : Binds (minus one (minus one one)) rvalue_rank → ⊥
binds_right f = let no : 2 ≤ 1 = f.2.0 in omega arith

-- a product may be a part of a difference, and a difference no part of a product
pub product_in_difference : Binds (minus one (times one one)) rvalue_rank
product_in_difference = (leb-true _ _ refl, tt, (leb-true _ _ refl, tt, tt))

pub difference_in_product : Binds (times (minus one one) one) rvalue_rank → ⊥
difference_in_product f = let no : 2 ≤ 1 = f.1.0 in omega arith

-- 1?1:1?1:1 is no conditional of a conditional, nor 1?1:1=1 one that ends in an assignment
pub choice_of_choice : Binds (Conditional (Conditional one one one) one one) rvalue_rank → ⊥
choice_of_choice f = let no : 8 ≤ 7 = f.1.0 in omega arith

pub choice_before_assignment : Binds (Conditional one one (Assigned None 1 one one)) rvalue_rank → ⊥
choice_before_assignment f = let no : 9 ≤ 8 = f.3.0 in omega arith

-- -1[1]: what stands before an index has no prefix operator
pub index_of_negative : Binds (Indexed (Prefixed Negate 1 one) one) rvalue_rank → ⊥
index_of_negative f = f.0

-- if(1) if(1) ; else ;: the else is the inner one's, and not the outer one's
pub inner_else : StatementBinds (If one (IfElse one Empty Empty))
inner_else = (tt, (refl, tt, tt, tt))

pub outer_else : StatementBinds (IfElse one (If one Empty) Empty) → ⊥
outer_else s = let no : true ≡ false = s.0 in cc

-- so many parentheses, one within another
abbrev grouped : ℕ → Expr → Expr
grouped zero e = e
grouped (suc n) e = Grouped (grouped n e)

-- f()
abbrev f : Stmt → Definition
f body = Function (record { text = codes "f"; line = 1 }) [] body

-- 200 levels are within the limit, and one more isn't
pub deepest : IsFormed (f (Evaluate (grouped 200 one)))
deepest = (tt, leb-true _ _ refl, tt)

pub too_deep : IsFormed (f (Evaluate (grouped 201 one))) → ⊥
too_deep h = let no : 201 ≤ 200 = h.1 in omega arith

-- What opens a level, and what doesn't: three levels in each part of an expression,
abbrev three : Expr
three = grouped 3 one

abbrev argument : Arguments → Expr → Arguments
argument before e = Another before e

pub expression_levels :
    map (λ e. levels_in (walk e)) (
    Indexed three one ∷ Indexed one three ∷ Called three No_arguments
    ∷ Called one (argument (argument No_arguments three) one)
    ∷ Called one (argument (argument No_arguments one) three)
    ∷ Postfixed PostIncrement 1 three ∷ Prefixed Negate 1 three ∷ minus three one ∷ minus one three
    ∷ Conditional three one one ∷ Conditional one three one ∷ Conditional one one three
    ∷ Assigned None 1 three one ∷ Assigned None 1 one three ∷ []
    ) ≡ 3 ∷ 4 ∷ 3 ∷ 4 ∷ 4 ∷ 3 ∷ 4 ∷ 3 ∷ 3 ∷ 3 ∷ 4 ∷ 4 ∷ 3 ∷ 4 ∷ []
expression_levels = refl

-- and of a statement
abbrev label : Heading
label = Label (record { text = codes "l"; line = 1 })

pub statement_levels :
    map (λ s. levels_in (walk_statement s)) (
    Headed label (Goto three) ∷ Compound (More (More Nothing (Goto three)) Empty)
    ∷ Compound (More (More Nothing Empty) (Goto three)) ∷ If three Empty ∷ If one (Goto three)
    ∷ IfElse three Empty Empty ∷ IfElse one (Goto three) Empty ∷ IfElse one Empty (Goto three)
    ∷ While three Empty ∷ While one (Goto three) ∷ Switch three Nothing
    ∷ Switch one (More (More Nothing (Goto three)) Empty) ∷ Goto three ∷ ReturnValue three ∷ Evaluate three ∷ []
    ) ≡ 3 ∷ 4 ∷ 4 ∷ 4 ∷ 4 ∷ 4 ∷ 4 ∷ 4 ∷ 4 ∷ 4 ∷ 4 ∷ 4 ∷ 3 ∷ 3 ∷ 3 ∷ []
statement_levels = refl

-- strings come in the order of the tokens
abbrev string : ℕ → Expr
string n = Text (n ∷ []) n

abbrev offsets : List TextAt → List ℕ
offsets texts = map (λ t. t.offset) texts

pub expression_order : offsets (texts_in (walk (Assigned None 1 (Indexed (string 0) (string 1)) (Conditional
    (Called (string 2) (argument (argument No_arguments (string 3)) (string 4)))
    (minus (string 5) (Grouped (string 6)))
    (Prefixed Negate 1 (Postfixed PostIncrement 1 (string 7)))))))
    ≡ 0 ∷ 1 ∷ 2 ∷ 3 ∷ 4 ∷ 5 ∷ 6 ∷ 7 ∷ []
expression_order = refl

pub statement_order : offsets (texts_in (walk_statement (Compound (More (More (More (More Nothing
    (If (string 0) (Goto (string 1)))) (IfElse (string 2) (ReturnValue (string 3)) (Evaluate (string 4))))
    (While (string 5) (Headed label (Goto (string 6))))) (Switch (string 7) (More Nothing (Goto (string 8))))))))
    ≡ 0 ∷ 1 ∷ 2 ∷ 3 ∷ 4 ∷ 5 ∷ 6 ∷ 7 ∷ 8 ∷ []
statement_order = refl

-- "abc" takes two words, so the string after it has the offset 2, in a function and among initial values
abbrev after_abc : ℕ → Definition
after_abc n = f (Evaluate (minus (Text (codes "abc") 0) (Text (codes "c") n)))

pub second_string : IsFormed (after_abc 2)
second_string = ((leb-true _ _ refl, tt, tt), leb-true _ _ refl, (refl, (refl, tt)))

pub second_string_too_near : IsFormed (after_abc 1) → ⊥
second_string_too_near h = let no : ◌≡◌ {A = ℕ} 1 2 = h.2.1.0 in omega arith

abbrev values_after_abc : ℕ → Definition
values_after_abc n =
    Simple (record { text = codes "s"; line = 1 })
    (Ival_text (codes "abc") 0 ∷ Ival_constant (Number 1) ∷ Ival_text (codes "c") n ∷ [])

pub second_value : IsFormed (values_after_abc 2)
second_value = (refl, (refl, tt))

pub second_value_too_near : IsFormed (values_after_abc 1) → ⊥
second_value_too_near h = let no : ◌≡◌ {A = ℕ} 1 2 = h.1.0 in omega arith

pub words_of_both : string_words_of (after_abc 2) ≡ 25185 ∷ 1123 ∷ 1123 ∷ []
words_of_both = refl

-- Where a source is at fault, no program goes on
pub no_program_goes_on : (before : List Token) (at : Placed) (d : Diagnostic) → StopsAt before at (Some d)
    → IsViable before at.token → ⊥
no_program_goes_on before at d stops viable = stops.1 viable

-- n;
abbrev n : Definition
n = Simple (record { text = codes "n"; line = 1 }) []

pub parts_of_n : Parts (spell_definition n) (n ∷ [])
parts_of_n = record { part = []; split = refl; formed = (tt, tt); is_part = inl refl }

-- n; is parted into its one definition, and not into none
pub one_part : (tokens : List Placed) (stop : Option Diagnostic) (p : Parted tokens [] stop) → p.before ≡ spell_definition n
    → ⊥
one_part tokens stop p e =
    let no : 1 ≤ 0 = p.longest (n ∷ []) (subst (λ before. Parts before (n ∷ [])) (sym e) parts_of_n) in omega arith
