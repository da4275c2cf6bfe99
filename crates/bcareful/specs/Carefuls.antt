-- Promise: what comes of a careful run.
use Rattle.std.specs.Prelude.{◌≡◌, ℕ, ◌<◌, List, ◌++◌, Some}
use Rattle.bword.specs.ByteEnds.{CanFollow, Incoming, Outgoing, Took}
use Rattle.blang.specs.declared.run.Outcome.TheVariants as outcome
use Rattle.blang.specs.Machine.{Loaded, States}
use Rattle.blang.specs.Reports.{ComesTo, RunGives}
use Rattle.bmach.specs.Readings.{ReadBySteps}
use Rattle.bmach.specs.Stepping.{Paused}
use Rattle.bmach.specs.Stops.{IsOverAt, active_of}
use Rattle.bmach.specs.declared.machine.Stop.{Stop}
use Rattle.bwatch.specs.Sights.{Sights, sight_at, sights_of}
use Rattle.bcareful.specs.Things.{Atlas}
use Rattle.bcareful.specs.Findings.{careful, finding_at, made_by}
use Rattle.bcareful.specs.declared.watching.Ended.{Ended}
use Rattle.bcareful.specs.declared.watching.Ended.TheVariants as ended
use Rattle.bcareful.specs.declared.watching.Found.{Found}

-- The run stays after so many steps, at this finding, where it is paused.
pub record StaysAt (a : Atlas) (sights : Sights) (steps : ℕ) (p : Paused) (found : Found) : Type 0 where
  pub within : found.made < steps
  pub made : made_by a sights steps ≡ found.made
  pub finding : finding_at a sights found.made ≡ Some found.finding
  pub seen : sights found.made ≡ sight_at p (sights found.made).output
  pub call : found.call ≡ active_of p.call

module _ (a : Atlas) (functions : List Loaded) (states : States) (steps : ℕ) (i j : Incoming) where
  -- So does it on each input that begins with the bytes that were taken. No step has read others.
  pub record IsFound (p : Paused) (found : Found) : Type 0 where
    pub read : ReadBySteps states steps i j
    pub taken : List ℕ
    pub took : Took i taken j
    pub stays : (more : List ℕ) → CanFollow j more
        → StaysAt a (sights_of functions states (taken ++ more)) steps p found

  -- No step of the run had a finding.
  pub record IsUnfound : Type 0 where
    pub taken : List ℕ
    pub took : Took i taken j
    pub all : (more : List ℕ) → CanFollow j more
        → made_by a (sights_of functions states (taken ++ more)) steps ≡ steps

  -- The careful machine came to this without a finding, and the machine was over there. Unless a read or a write
  -- failed, steps have read just what was taken.
  pub record IsClean (o p : Outgoing) (stop : Stop) : Type 0 where
    pub gives : RunGives (careful a functions states) steps i j o p stop.outcome
    pub unfound : stop.outcome ≡ outcome.Limit → IsUnfound
    pub stops : IsOverAt states steps i j stop.outcome stop.call stop.steps
    pub read : (stop.outcome ≡ outcome.Device → ⊥) → ReadBySteps states steps i j

  -- what comes of so many steps of a careful machine
  abbrev pub CarefulGives : (o p : Outgoing) → (now : Paused) → Ended → Type 0
  CarefulGives o p now (ended.Found found) =
      ComesTo (careful a functions states) steps i j o p outcome.Limit × IsFound now found
  CarefulGives o p now (ended.Over stop) = IsClean o p stop
