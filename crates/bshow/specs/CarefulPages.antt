-- Promise: the page of a run that is looked at carefully, up to its first finding.
use Rattle.std.specs.Prelude.{◌≡◌, ℕ, false, List, Option, Some, None}
use Rattle.bword.specs.ByteEnds.{Took, Unread, incoming_of}
use Rattle.blang.specs.declared.code.Definition.{Definition}
use Rattle.blang.specs.declared.run.Outcome.{Outcome}
use Rattle.blang.specs.declared.run.Outcome.TheVariants as outcome
use Rattle.blang.specs.declared.status.TheConstants.{DEVICE, MEMORY}
use Rattle.blang.specs.Machine.{Image, image_of, machine}
use Rattle.blang.specs.Reports.{HasNotRun, RunEnds}
use Rattle.bmach.specs.Readings.{ReadBySteps}
use Rattle.bmach.specs.Stepping.{BeginsNot}
use Rattle.bmach.specs.declared.machine.Stop.{Stop}
use Rattle.btools.specs.declared.names.Frame.{Frame}
use Rattle.btools.specs.FaultPlaces.{fault_lines}
use Rattle.btools.specs.Origins.{IsSuited, NamesOf, NoProgramOf, Origin, ProgramOf}
use Rattle.bcareful.specs.First.{FindsFirst}
use Rattle.bcareful.specs.Runs.{finds_wraps}
use Rattle.bcareful.specs.Things.{atlas_in}
use Rattle.bcareful.specs.declared.care.Care.{Care}
use Rattle.bshow.specs.Shows.{Asked, Shows}

-- What is asked of a page that has so many steps as a run without a finding makes, and the finding of the next one.
abbrev pub asked_up_to : Asked → Stop → (meaning : Option (List ℕ)) → Asked
asked_up_to asked stop None = asked
asked_up_to asked stop (Some meaning) = record asked { steps = stop.steps; finding = Some meaning }

-- The same streams, where these bytes are all that is read, and are left so.
abbrev pub ends_over : (bytes : List ℕ) → (left : Unread) → RunEnds → RunEnds
ends_over bytes left ends =
    record ends { input = incoming_of (record { left = bytes; is_over = false }); input_after = incoming_of left }

-- No page was written, and nothing told.
pub record ShowsNothing (ends : RunEnds) (status answer : ℕ) : Type 0 where
  pub no_page : ends.out_after ≡ ends.out
  pub no_line : ends.line_after ≡ ends.line
  pub status_is : status ≡ answer

-- The program of this origin was run for so many steps at most, as a careful machine runs it. Then its page was written
-- of the bytes that it has read: that of the steps before the first finding, which the page tells; or that of the whole
-- run, where there is none. Or it could not read its input; or its input was more than is kept; or it did not begin,
-- which the page says; or there is no program, and why was told; or memory was refused, and nothing was written.
pub data ShowsCarefully (care : Care) (origin : Origin) (source : List ℕ) (asked : Asked) (ends : RunEnds)
    (status : ℕ) : Type 0 where
  shown : (ds : List Definition) (image : Image) (frames : List Frame) (stop : Stop) (meaning : Option (List ℕ))
      (taken : List ℕ) (left : Unread)
      → ProgramOf origin source ds image → IsSuited origin source → NamesOf origin source frames
      → FindsFirst (atlas_in ds frames (finds_wraps care)) (image_of ds).functions (machine ds) asked.steps
      ends.input ends.input_after stop meaning
      → (stop.outcome ≡ outcome.Device → ⊥) → (stop.outcome ≡ outcome.Memory → ⊥)
      → Took ends.input taken ends.input_after
      → Shows origin source (asked_up_to asked stop meaning) (ends_over taken left ends) status
      → ShowsCarefully care origin source asked ends status
  unkept : (ds : List Definition) (image : Image) (frames : List Frame) (stop : Stop) (meaning : Option (List ℕ))
      → ProgramOf origin source ds image → IsSuited origin source → NamesOf origin source frames
      → FindsFirst (atlas_in ds frames (finds_wraps care)) (image_of ds).functions (machine ds) asked.steps
      ends.input ends.input_after stop meaning
      → ShowsNothing ends status MEMORY → ShowsCarefully care origin source asked ends status
  unread : (ds : List Definition) (image : Image) (frames : List Frame) (stop : Stop) (meaning : Option (List ℕ))
      → ProgramOf origin source ds image → IsSuited origin source → NamesOf origin source frames
      → FindsFirst (atlas_in ds frames (finds_wraps care)) (image_of ds).functions (machine ds) asked.steps
      ends.input ends.input_after stop meaning
      → stop.outcome ≡ outcome.Device → ShowsNothing ends status DEVICE
      → ShowsCarefully care origin source asked ends status
  not_begun : (ds : List Definition) (image : Image) (result : Outcome)
      → ProgramOf origin source ds image → IsSuited origin source → BeginsNot image result
      → (result ≡ outcome.Memory → ⊥) → Shows origin source asked ends status
      → ShowsCarefully care origin source asked ends status
  stopped : NoProgramOf origin source (fault_lines asked.files) ends.line ends.line_after status → HasNotRun ends
      → ShowsCarefully care origin source asked ends status
  no_memory : (ds : List Definition) (image : Image) → ProgramOf origin source ds image → IsSuited origin source
      → ReadBySteps (machine ds) asked.steps ends.input ends.input_after → ShowsNothing ends status MEMORY
      → ShowsCarefully care origin source asked ends status
