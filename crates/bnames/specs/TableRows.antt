-- Closed facts: a table of five names.
use Rattle.std.specs.Prelude.{◌≡◌, ℕ, List, [], ◌∷◌, map, codes, Some, None, refl}
use Rattle.bnames.specs.NameTables.{value_in, with_name}

-- put in out of order
abbrev five : List (List ℕ × ℕ)
five =
    with_name (with_name (with_name (with_name (with_name [] (codes "g") 3) (codes "a") 0) (codes "i") 4) (codes "c") 1)
    (codes "e") 2

in_order : five ≡ (codes "a", 0) ∷ (codes "c", 1) ∷ (codes "e", 2) ∷ (codes "g", 3) ∷ (codes "i", 4) ∷ []
in_order = refl

-- case and length count
found : map (λ x. value_in x five) (codes "a" ∷ codes "e" ∷ codes "i" ∷ codes "b" ∷ codes "A" ∷ codes "aa" ∷ []) ≡
    Some 0 ∷ Some 2 ∷ Some 4 ∷ None ∷ None ∷ None ∷ []
found = refl

-- a capital stands before a small letter, a beginning before what is longer, and a digit before a letter
others : map (λ e. e.0) (with_name (with_name (with_name five (codes "B") 5) (codes "ab") 6) (codes "a1") 7) ≡
    codes "B" ∷ codes "a" ∷ codes "a1" ∷ codes "ab" ∷ codes "c" ∷ codes "e" ∷ codes "g" ∷ codes "i" ∷ []
others = refl
