-- Promise: a run in which a state comes again never ends.
use Rattle.std.specs.Prelude.{◌≡◌, ℕ, ◌<◌, List, []}
use Rattle.blang.specs.Layout.{World}
use Rattle.blang.specs.Machine.{Image, State, Running, Halted, Stuck, run}
use Rattle.blang.specs.Value.{Wants}
use Rattle.bmean.specs.Laws.{Law}

abbrev pub IsRunning : State → Type 0
IsRunning (Running call below w) = Unit {0}
IsRunning s = ⊥

-- what the next steps depend on: all but what was written
abbrev pub unwritten : World → World
unwritten w = record w { output = [] }

abbrev pub silent : State → State
silent (Running call below w) = Running call below (unwritten w)
silent (Halted e w) = Halted e (unwritten w)
silent (Stuck w) = Stuck (unwritten w)

-- After n steps the machine runs on in the state that it had after m steps.
pub record ComesAgain (state : ℕ → State) (m n : ℕ) : Type 0 where
  pub later : m < n
  pub runs : IsRunning (state m)
  pub same : silent (state n) ≡ silent (state m)

-- Then it runs after every number of steps.
abbrev pub NeverEnds : Type 0
NeverEnds =
    (image : Image) (input : List ℕ) (m n : ℕ) → ComesAgain (run image input) m n
    → (k : ℕ) → IsRunning (run image input k)

-- And the program wants more fuel at every number.
abbrev pub WantsForEver : Law
WantsForEver state answer = (m n : ℕ) → ComesAgain state m n → (k : ℕ) → (w : World) × (answer k ≡ Wants w)
