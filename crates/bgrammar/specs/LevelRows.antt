-- Closed facts: the level of each token of two functions.
use Rattle.std.specs.Prelude.{◌≡◌, ℕ, List, [], ◌∷◌, map, None, refl}
use Rattle.blang.specs.Trees.{Number, Expr, Literal, Indexed, Called, Prefixed, Negate, Conditional, Assigned}
use Rattle.blang.specs.Trees.{No_arguments, Another, Stmt, If, Switch, Evaluate, Nothing, More, Function}
use Rattle.bgrammar.specs.Rows.{word, var}
use Rattle.bgrammar.specs.Levels.{program_levels}

abbrev levels_of : Stmt → List ℕ
levels_of body = map (λ t. t.level) (program_levels (Function (word 102) (word 97 ∷ []) body ∷ []))

abbrev a : Expr
a = var 97

abbrev number : ℕ → Expr
number n = Literal (Number n)

-- f(a) if(a) f(a[1], -a);
in_a_call : levels_of
    (If a (Evaluate (Called (var 102) (Another (Another No_arguments (Indexed a (number 1))) (Prefixed Negate 1 a)))))
    ≡ 0 ∷ 0 ∷ 0 ∷ 0 ∷ 1 ∷ 1 ∷ 1 ∷ 1 ∷ 1 ∷ 2 ∷ 2 ∷ 3 ∷ 3 ∷ 2 ∷ 2 ∷ 3 ∷ 3 ∷ 1 ∷ 1 ∷ []
in_a_call = refl

-- f(a) switch a { a = a ? 1 : 2; }
in_a_switch : levels_of (Switch a (More Nothing (Evaluate (Assigned None 1 a (Conditional a (number 1) (number 2))))))
    ≡ 0 ∷ 0 ∷ 0 ∷ 0 ∷ 1 ∷ 1 ∷ 1 ∷ 1 ∷ 2 ∷ 2 ∷ 3 ∷ 3 ∷ 3 ∷ 3 ∷ 1 ∷ 1 ∷ []
in_a_switch = refl
