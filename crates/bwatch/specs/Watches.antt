-- Promise: what comes of a run on which somebody looks.
use Rattle.std.specs.Prelude.{◌≡◌, ℕ, ◌+◌, ◌≤◌, List, ◌++◌, map, Some}
use Rattle.bword.specs.ByteEnds.{CanFollow, Incoming, Kept, Took, outgoing_of}
use Rattle.blang.specs.declared.code.Definition.{Definition}
use Rattle.blang.specs.declared.run.Outcome.{Outcome}
use Rattle.blang.specs.declared.run.Outcome.TheVariants as outcome
use Rattle.blang.specs.Machine.{Image, Loaded, State, States, image_of, machine, state_world}
use Rattle.blang.specs.Reports.{AsksForByte, RunGives, state_outcome}
use Rattle.bmach.specs.Stepping.{BeginsNot, Paused}
use Rattle.bmach.specs.Stops.{active_of}
use Rattle.bmach.specs.declared.machine.Stop.{Stop}
use Rattle.btools.specs.Programs.{nothing_written}
use Rattle.bwatch.specs.Sights.{Sights, end_sight, sight_at, sights_of}
use Rattle.bwatch.specs.declared.watching.Watched.{Watched}
use Rattle.bwatch.specs.declared.watching.Watched.TheVariants as watched

-- The run is over by its last step, which was awaited; before it this call ran.
pub record IsLast (p : Paused) (sights : Sights) (awaits : ℕ → Type 0) (stop : Stop) : Type 0 where
  pub last : ℕ
  pub made : stop.steps ≡ last + 1
  pub awaited : awaits last
  pub ran : (sights last).call ≡ Some stop.call
  pub over : sights stop.steps ≡ end_sight p.store (sights last).output

-- What is known where a run ends: it is over; or all steps were made and seen. A step that is a trap leaves the calls
-- below as they were.
abbrev pub Ending : Paused → (sights : Sights) → (seen awaits : ℕ → Type 0) → Outcome → Stop → Type 0
Ending p sights seen awaits (outcome.Exit status) stop = IsLast p sights awaits stop
Ending p sights seen awaits (outcome.Trap kind) stop =
    (is : IsLast p sights awaits stop) × ((sights is.last).below ≡ map active_of p.below)
Ending p sights seen awaits outcome.Limit stop =
    seen stop.steps × (sights stop.steps ≡ sight_at p (sights stop.steps).output) × (stop.call ≡ active_of p.call)
Ending p sights seen awaits result stop = ⊥

-- the same, or the next step could not read and was only awaited
abbrev pub Stands : Paused → (seen awaits : Sights → (made : ℕ) → Type 0) → Stop → Sights → (made : ℕ) → Outcome → Type 0
Stands p seen awaits stop sights made outcome.Device = awaits sights stop.steps
Stands p seen awaits stop sights made result = Ending p sights (seen sights) (awaits sights) result stop

-- What somebody has in the end who looked on; where the next step could not read, it was only awaited.
abbrev pub Leaves : (awaits : Sights → (made : ℕ) → Type 0) → (told : Sights → (made : ℕ) → Outcome → Type 0) → Sights
    → (made : ℕ) → Outcome → Type 0
Leaves awaits told sights made outcome.Device = awaits sights made
Leaves awaits told sights made result = told sights made result

-- With the last of these steps the run had this outcome, and before it went on.
abbrev pub IsOverBy : (ℕ → State) → (made : ℕ) → Outcome → Type 0
IsOverBy states made result =
    (last : ℕ) × (last + 1 ≡ made) × (state_outcome (states last) ≡ outcome.Limit)
    × (state_outcome (states made) ≡ result)

-- After so many steps the run was over, or all were made, or the next one asks for a byte, which could not be read; then
-- this is left of the input.
abbrev pub EndsAfter : (ℕ → State) → (made steps : ℕ) → Outcome → (left : List ℕ) → Type 0
EndsAfter states made steps (outcome.Exit status) left = IsOverBy states made (outcome.Exit status)
EndsAfter states made steps (outcome.Trap kind) left = IsOverBy states made (outcome.Trap kind)
EndsAfter states made steps outcome.Limit left = (made ≡ steps) × (state_outcome (states made) ≡ outcome.Limit)
EndsAfter states made steps outcome.Device left =
    AsksForByte (states made) × ((state_world (states made)).input ≡ left)
EndsAfter states made steps outcome.Memory left = ⊥

-- A machine was run for so many steps at most and came to this with so many, and this was told of it. Its input is what
-- was taken and what may follow.
pub record Watches (functions : List Loaded) (states : States) (steps : ℕ) (i j : Incoming) (result : Outcome) (made : ℕ)
    (tells : Sights → (made : ℕ) → Outcome → Type 0) : Type 0 where
  pub output : Kept
  pub gives : RunGives states steps i j nothing_written (outgoing_of output) result
  pub within : made ≤ steps
  pub taken : List ℕ
  pub took : Took i taken j
  pub ends : (more : List ℕ) → CanFollow j more → EndsAfter (states (taken ++ more)) made steps result more
  pub told : (more : List ℕ) → CanFollow j more → tells (sights_of functions states (taken ++ more)) made result

-- What comes of a program: a trap has it over before its first step, and nothing is read; or it was run, and watched.
abbrev pub WatchGives : List Definition → Image → (steps : ℕ) → (i j : Incoming)
    → (tells : Sights → (made : ℕ) → Outcome → Type 0) → Watched → Type 0
WatchGives ds image steps i j tells (watched.Unbegun kind) = BeginsNot image (outcome.Trap kind) × (j ≡ i)
WatchGives ds image steps i j tells (watched.Ended stop) =
    Watches (image_of ds).functions (machine ds) steps i j stop.outcome stop.steps tells
