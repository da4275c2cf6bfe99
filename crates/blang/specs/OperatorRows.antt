-- Closed facts: operators: the rank of each, which forms are lvalues, and which operators want one.
use Rattle.std.specs.Prelude.{◌≡◌, true, false, List, [], ◌∷◌, map, length, replicate, codes, None, refl}
use Rattle.bword.specs.Words.{operators}
use Rattle.bword.specs.declared.operators.BinOp.TheVariants as op
use Rattle.blang.specs.Trees.{Number, Negate, Not, Indirection, Address, PreIncrement, PreDecrement, PostIncrement}
use Rattle.blang.specs.Trees.{PostDecrement, Expr, Literal, Text, Grouped, Indexed, Called, Postfixed, Prefixed, Binary}
use Rattle.blang.specs.Trees.{Conditional, Assigned, No_arguments, Named}
use Rattle.blang.specs.WellFormed.{rank, or_rank, conditional_rank, rvalue_rank}
use Rattle.blang.specs.Scan.{is_lvalue, Entry, Automatic, External, Unlabelled, Labelled}
use Rattle.blang.specs.Walk.{events_in, walk}

-- or, and, equal, unequal, below, at most, above, at least, shifted left and right, minus, plus, remainder, times, over
ranks : map rank operators ≡ 7 ∷ 6 ∷ 5 ∷ 5 ∷ 4 ∷ 4 ∷ 4 ∷ 4 ∷ 3 ∷ 3 ∷ 2 ∷ 2 ∷ 1 ∷ 1 ∷ 1 ∷ []
ranks = refl

looser_ranks : or_rank ∷ conditional_rank ∷ rvalue_rank ∷ [] ≡ 7 ∷ 8 ∷ 9 ∷ []
looser_ranks = refl

abbrev one : Expr
one = Literal (Number 1)

abbrev at : Expr
at = Indexed one one

no_lvalues : map (is_lvalue []) (
    one ∷ Text [] 0 ∷ Grouped one ∷ Called at No_arguments ∷ Postfixed PostIncrement 1 at ∷ Postfixed PostDecrement 1 at
    ∷ Prefixed Negate 1 at ∷ Prefixed Not 1 at ∷ Prefixed Address 1 at ∷ Prefixed PreIncrement 1 at
    ∷ Prefixed PreDecrement 1 at ∷ Binary op.Add 1 at at ∷ Conditional at at at ∷ Assigned None 1 at at ∷ []
    ) ≡ replicate 14 false
no_lvalues = refl

some_lvalues : map (is_lvalue []) (at ∷ Prefixed Indirection 1 one ∷ Grouped at ∷ []) ≡ replicate 3 true
some_lvalues = refl

-- which operators want one
want_lvalues : map (λ e. length (events_in (walk e))) (
    Prefixed Address 1 one ∷ Prefixed PreIncrement 1 one ∷ Prefixed PreDecrement 1 one ∷ Postfixed PostIncrement 1 one
    ∷ Postfixed PostDecrement 1 one ∷ Assigned None 1 one one ∷ Prefixed Negate 1 one ∷ Prefixed Not 1 one
    ∷ Prefixed Indirection 1 one ∷ []
    ) ≡ 1 ∷ 1 ∷ 1 ∷ 1 ∷ 1 ∷ 1 ∷ 0 ∷ 0 ∷ 0 ∷ []
want_lvalues = refl

-- a variable is an lvalue, and a label isn't
abbrev table : List Entry
table = record { name = codes "a"; kind = Automatic 1 } ∷ record { name = codes "g"; kind = External }
    ∷ record { name = codes "l"; kind = Unlabelled 1 } ∷ record { name = codes "m"; kind = Labelled 0 } ∷ []

named_lvalues : map (λ x. is_lvalue table (Named (record { text = x; line = 1 })))
    (codes "a" ∷ codes "g" ∷ codes "l" ∷ codes "m" ∷ []) ≡ true ∷ true ∷ false ∷ false ∷ []
named_lvalues = refl
