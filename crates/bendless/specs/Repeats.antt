-- Promise: a state of a run that was found to come again.
use Rattle.std.specs.Prelude.{◌≡◌, ℕ, ◌≤◌, List, ◌++◌, length}
use Rattle.bword.specs.ByteEnds.{CanFollow, Incoming, Took}
use Rattle.blang.specs.declared.code.Definition.{Definition}
use Rattle.blang.specs.Machine.{Image, Running, State, States, image_of, machine, run}
use Rattle.blang.specs.Reports.{state_outcome}
use Rattle.blang.specs.declared.run.Outcome.TheVariants as outcome
use Rattle.bmach.specs.Resolved.{IsLoadedFrom}
use Rattle.bmach.specs.Stops.{RunsCall}
use Rattle.btools.specs.Functions.{Placed}
use Rattle.btools.specs.declared.names.Frame.{Frame}
use Rattle.bwatch.specs.Sights.{Sights, sights_of}
use Rattle.bendless.specs.Endless.{ComesAgain}
use Rattle.bendless.specs.Idle.{idle_names}
use Rattle.bendless.specs.Loops.{notes_in}
use Rattle.bendless.specs.declared.endless.Endless.{Endless}
use Rattle.bendless.specs.declared.search.Repeat.{Repeat}

-- The machine runs a call that has at least so many below it.
abbrev pub IsWithin : (callers : ℕ) → State → Type 0
IsWithin callers (Running call below w) = callers ≤ length below
IsWithin callers s = ⊥

-- The run is in a state after the first number of steps, in which this call runs, above so many, and again after the
-- later number. No step between them returns from it.
pub record Repeats (states : ℕ → State) (r : Repeat) : Type 0 where
  pub comes_again : ComesAgain states r.first r.again
  pub runs : RunsCall (states r.first) r.call
  pub callers : length runs.below ≡ r.callers
  pub stays : (n : ℕ) → r.first ≤ n → n ≤ r.again → IsWithin r.callers (states n)

-- On each input that begins with the bytes that were taken, or on the one whose end was seen, this state comes again.
pub record ComesBack (states : States) (i j : Incoming) (r : Repeat) : Type 0 where
  pub taken : List ℕ
  pub took : Took i taken j
  pub repeats : (more : List ℕ) → CanFollow j more → Repeats (states (taken ++ more)) r

-- It runs after every number of steps, on each input that begins with the bytes that were taken, or on the one whose
-- end was seen.
pub record RunsForEver (states : States) (i j : Incoming) : Type 0 where
  pub taken : List ℕ
  pub took : Took i taken j
  pub runs : (more : List ℕ) → CanFollow j more → (n : ℕ) → state_outcome (states (taken ++ more) n) ≡ outcome.Limit

-- A run of what was loaded, of which a state comes back, runs for ever, and never returns from the call in which it
-- does.
abbrev pub BackForEver : Type 0
BackForEver =
    (ds : List Definition) (image : Image) (i j : Incoming) (r : Repeat) → IsLoadedFrom ds image
    → (back : ComesBack (run image) i j r) → RunsForEver (machine ds) i j
    × ((more : List ℕ) → CanFollow j more → (n : ℕ) → r.first ≤ n
    → IsWithin r.callers (run image (back.taken ++ more) n))

-- A run was found so, as it is seen: this is what its loop does.
pub record IsLoop (fs : List Placed) (ds : List Definition) (frames : List Frame) (sights : Sights) (e : Endless)
    : Type 0 where
  pub asks : e.asks ≡ (notes_in fs sights e.repeat).asks
  pub names : e.names ≡ idle_names fs ds frames e.repeat.call (notes_in fs sights e.repeat)

-- The run of a program never ends: a state comes again, and between its two times the loop does this.
pub record IsEndless (ds : List Definition) (image : Image) (fs : List Placed) (frames : List Frame) (i j : Incoming)
    (e : Endless) : Type 0 where
  pub comes_back : ComesBack (run image) i j e.repeat
  pub loop : (more : List ℕ) → CanFollow j more
      → IsLoop fs ds frames (sights_of (image_of ds).functions (machine ds) (comes_back.taken ++ more)) e
