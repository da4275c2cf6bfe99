-- Inner words: what comes of one step on which somebody looks.
use Rattle.std.specs.Prelude.{◌≡◌, ℕ, ◌+◌, List, ◌++◌, Result, Ok, Err}
use Rattle.bword.specs.ByteEnds.{Incoming, Kept, outgoing_of}
use Rattle.blang.specs.declared.run.Outcome.{Outcome}
use Rattle.blang.specs.declared.run.Outcome.TheVariants as outcome
use Rattle.bmach.specs.Stepping.{Paused, machine_at}
use Rattle.bmach.specs.Turns.{TurnGives}
use Rattle.bmach.specs.declared.machine.Active.{Active}
use Rattle.bmach.specs.declared.machine.Stop.{Stop}
use Rattle.btools.specs.Programs.{nothing_written}
use Rattle.bwatch.specs.Sights.{Sights, sight_at}

-- A step was made, and was seen; or the run was over with it, or broken off, and it was awaited.
abbrev pub IsSeen : (seen awaits sees : Sights → ℕ → Type 0) → (made : ℕ) → (old new : Paused) → (written : List ℕ)
    → Result (Unit {0}) Outcome → Type 0
IsSeen seen awaits sees made old new written (Ok u) =
    (sights : Sights) → sights made ≡ sight_at old (sights made).output
    → sights (made + 1) ≡ sight_at new ((sights made).output ++ written) → seen sights made → sees sights (made + 1)
IsSeen seen awaits sees made old new written (Err r) =
    (sights : Sights) → sights made ≡ sight_at old (sights made).output → seen sights made → awaits sights made

-- What it did to its streams, where what it wrote is kept by itself.
pub record StepGives (seen awaits sees : Sights → ℕ → Type 0) (made : ℕ) (old new : Paused) (i j : Incoming)
    (r : Result (Unit {0}) Outcome) : Type 0 where
  pub written : Kept
  pub turn : TurnGives old.image (machine_at old) (machine_at new) i j nothing_written (outgoing_of written) r
  pub looked : IsSeen seen awaits sees made old new written.bytes r

-- where a run stands that is over with the step after so many, or was broken off in it
abbrev pub steps_at : Outcome → (made : ℕ) → ℕ
steps_at outcome.Device made = made
steps_at result made = made + 1

abbrev pub stop_at : Outcome → Active → (made : ℕ) → Stop
stop_at result call made = record { outcome = result; call = call; steps = steps_at result made }
