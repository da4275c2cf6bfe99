-- Promise: a machine that falls silent where a program writes without end doesn't do what it means.
use Rattle.std.specs.Prelude.{ℕ, ◌≤◌, List, [], ◌∷◌, codes, length}
use Rattle.blang.specs.Trees.{Another, Called, Character, Definition, Evaluate, Literal, Named, No_arguments, Number, While}
use Rattle.blang.specs.Machine.{State, state_world}
use Rattle.blang.specs.Meaning.{meant}
use Rattle.blang.specs.Headline.{AsMeant}

-- main() while(1) putchar('a');
abbrev pub writing_on : List Definition
writing_on =
    Definition.Function (record { text = codes "main"; line = 1 }) []
    (While (Literal (Number 1))
    (Evaluate (Called (Named (record { text = codes "putchar"; line = 1 })) (Another No_arguments (Literal (Character 97))))))
    ∷ []

-- A machine that writes so many bytes at most, even if it runs without end.
abbrev pub SilenceExcluded : Type 0
SilenceExcluded =
    (state : ℕ → State) (most : ℕ) → ((n : ℕ) → length (state_world (state n)).output ≤ most)
    → AsMeant state (meant writing_on []) → ⊥
