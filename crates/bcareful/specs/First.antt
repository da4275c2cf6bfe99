-- Promise: what is found first in a run that is made in silence.
use Rattle.std.specs.Prelude.{◌≡◌, ℕ, ◌<◌, List, ◌++◌, Option, Some, None}
use Rattle.bword.specs.ByteEnds.{CanFollow, Incoming, Kept, Took, outgoing_of}
use Rattle.blang.specs.declared.run.Outcome.{Outcome}
use Rattle.blang.specs.declared.run.Outcome.TheVariants as outcome
use Rattle.blang.specs.declared.code.Definition.{Definition}
use Rattle.blang.specs.Machine.{Image, Loaded, States, machine}
use Rattle.blang.specs.Reports.{ComesTo}
use Rattle.bmach.specs.Readings.{ReadBySteps}
use Rattle.bmach.specs.Stepping.{BeginsNot}
use Rattle.bmach.specs.declared.machine.Stop.{Stop}
use Rattle.btools.specs.Programs.{nothing_written}
use Rattle.bwatch.specs.Sights.{Sights, sights_of}
use Rattle.bcareful.specs.Things.{Atlas}
use Rattle.bcareful.specs.Findings.{careful, finding_at, made_by}
use Rattle.bcareful.specs.Carefuls.{IsClean}
use Rattle.bcareful.specs.Tellings.{calls_in, finding_meaning}
use Rattle.bcareful.specs.declared.finding.Finding.{Finding}

-- A careful run makes so many of these steps, since the next one has a finding, and this is wrong with it.
pub record IsFirst (a : Atlas) (sights : Sights) (steps made : ℕ) (text : List ℕ) : Type 0 where
  pub within : made < steps
  pub stays : made_by a sights steps ≡ made
  pub finding : Finding
  pub found : finding_at a sights made ≡ Some finding
  pub told : text ≡ finding_meaning a (calls_in (sights made)) finding

module _ (a : Atlas) (functions : List Loaded) (states : States) (steps : ℕ) (i j : Incoming) where
  -- It is so on each input that begins with the bytes that were taken, and the careful machine is there. All that it
  -- wrote before was kept.
  pub record FindsIt (stop : Stop) (text : List ℕ) : Type 0 where
    pub output : Kept
    pub gives : ComesTo (careful a functions states) steps i j nothing_written (outgoing_of output) outcome.Limit
    pub limit : stop.outcome ≡ outcome.Limit
    pub taken : List ℕ
    pub took : Took i taken j
    pub first : (more : List ℕ) → CanFollow j more
        → IsFirst a (sights_of functions states (taken ++ more)) steps stop.steps text

  -- The first finding was told; or there is none up to where the run was over, broken off, or at the limit.
  abbrev pub FindsFirst : Stop → (meaning : Option (List ℕ)) → Type 0
  FindsFirst stop (Some text) = FindsIt stop text
  FindsFirst stop None =
      (output : Kept) × IsClean a functions states steps i j nothing_written (outgoing_of output) stop

-- A program had no first step, and nothing was read; or memory was refused, and bytes were read by some of its steps.
abbrev pub FindsNothing : List Definition → Image → (steps : ℕ) → (i j : Incoming) → Outcome → Type 0
FindsNothing ds image steps i j outcome.Memory = ReadBySteps (machine ds) steps i j
FindsNothing ds image steps i j result = BeginsNot image result × (j ≡ i)
