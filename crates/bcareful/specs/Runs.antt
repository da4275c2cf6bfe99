-- Promise: what comes of a program that is run carefully.
use Rattle.std.specs.Prelude.{◌≡◌, ℕ, Bool, true, false, List, ◌++◌, Option, IfSome}
use Rattle.bword.specs.ByteEnds.{CanFollow, Outgoing}
use Rattle.blang.specs.declared.code.Definition.{Definition}
use Rattle.blang.specs.declared.run.Outcome.{Outcome}
use Rattle.blang.specs.declared.run.Outcome.TheVariants as outcome
use Rattle.blang.specs.Machine.{Image, States, image_of, machine}
use Rattle.blang.specs.Reports.{ComesTo, Finishes, HasNotRun, Reported, RunEnds}
use Rattle.bmach.specs.Stepping.{BeginsNot, Paused}
use Rattle.bmach.specs.declared.machine.Stop.{Stop}
use Rattle.bendless.specs.Repeats.{IsEndless}
use Rattle.bendless.specs.declared.endless.Endless.{Endless}
use Rattle.bsources.specs.Files.{Files, files_shown}
use Rattle.btools.specs.FaultPlaces.{fault_lines}
use Rattle.btools.specs.Functions.{functions_of}
use Rattle.btools.specs.Origins.{IsSuited, NamesOf, NoProgramOf, Origin, PlacesOf, ProgramOf, SourcePlaces}
use Rattle.btools.specs.Origins.{origin_shown}
use Rattle.btools.specs.declared.names.Frame.{Frame}
use Rattle.btrace.specs.RowTexts.{Legend, legend_in}
use Rattle.bwatch.specs.Sights.{sights_of}
use Rattle.bcareful.specs.Things.{atlas_in}
use Rattle.bcareful.specs.Findings.{careful}
use Rattle.bcareful.specs.Carefuls.{IsClean, IsFound}
use Rattle.bcareful.specs.Tellings.{Tells, TellsOver, careful_text}
use Rattle.bcareful.specs.Warned.{WarnGives, told_after}
use Rattle.bcareful.specs.declared.care.Care.{Care}
use Rattle.bcareful.specs.declared.care.Care.TheVariants as care
use Rattle.bcareful.specs.declared.care.CarefulRequest.{CarefulRequest}
use Rattle.bcareful.specs.declared.watching.Found.{Found}

-- the careful machine of these definitions, whose frames have these names
abbrev pub careful_machine : List Definition → List Frame → (wraps : Bool) → States
careful_machine ds frames wraps = careful (atlas_in ds frames wraps) (image_of ds).functions (machine ds)

-- It stays after these steps at this finding, and this was written of it.
pub record StaysThere (ds : List Definition) (frames : List Frame) (wraps : Bool) (legend : Legend) (source : List ℕ)
    (steps : ℕ) (ends : RunEnds) (found : Found) (text : List ℕ) : Type 0 where
  pub now : Paused
  pub gives : ComesTo (careful_machine ds frames wraps) steps ends.input ends.input_after ends.out ends.out_after
      outcome.Limit
  pub is : IsFound (atlas_in ds frames wraps) (image_of ds).functions (machine ds) steps ends.input ends.input_after now
      found
  pub tells : (more : List ℕ) → CanFollow ends.input_after more
      → text ≡ careful_text (atlas_in ds frames wraps) legend source
      (sights_of (image_of ds).functions (machine ds) (is.taken ++ more) found.made) found

-- what is asked for
pub record CarefulAsked : Type 0 where
  pub origin : Origin
  pub files : Files
  pub care : Care
  pub steps : ℕ

-- the same, by the type of the code
abbrev pub careful_asked : CarefulRequest → CarefulAsked
careful_asked w = record { origin = origin_shown w.origin; files = files_shown w.files; care = w.care; steps = w.steps }

-- whether a run stays at its first finding, and whether a result that is no word is one
abbrev pub stays : Care → Bool
stays care.Warns = false
stays care = true

abbrev pub finds_wraps : Care → Bool
finds_wraps care.Wraps = true
finds_wraps care = false

-- The program of this origin was run as a careful machine runs it, for so many steps at most. It stays at its first
-- finding, and that was told; or it has none, and its own line and status, and the place of a trap or of the limit
-- after the line. Or it was run as the machine runs it, with the same line, place and status, and all findings were
-- told after them, unless a read or a write failed, or memory ran out. Where the place is told, so is that the run
-- never ends, if a state of its image comes again. Or it did not begin, or there is none, and why was told; or memory
-- was refused.
pub data Runs (asked : CarefulAsked) (source : List ℕ) (ends : RunEnds) (status : ℕ) : Type 0 where
  found : (ds : List Definition) (image : Image) (frames : List Frame) (places : SourcePlaces) (found : Found)
      (text : List ℕ)
      → ProgramOf asked.origin source ds image → NamesOf asked.origin source frames
      → PlacesOf asked.origin source places → stays asked.care ≡ true
      → StaysThere ds frames (finds_wraps asked.care) (legend_in ds places asked.files) source asked.steps ends found
      text
      → Tells text ends.line ends.line_after status → Runs asked source ends status
  unfound : (ds : List Definition) (image : Image) (frames : List Frame) (places : SourcePlaces) (stop : Stop)
      (again : Option Endless) → ProgramOf asked.origin source ds image → NamesOf asked.origin source frames
      → PlacesOf asked.origin source places → stays asked.care ≡ true
      → IsClean (atlas_in ds frames (finds_wraps asked.care)) (image_of ds).functions (machine ds) asked.steps
      ends.input ends.input_after ends.out ends.out_after stop
      → IfSome again (IsEndless ds image (functions_of ds) frames ends.input ends.input_after)
      → TellsOver (legend_in ds places asked.files) source stop again ends.line ends.line_after status
      → Runs asked source ends status
  warned : (ds : List Definition) (image : Image) (frames : List Frame) (places : SourcePlaces) (stop : Stop)
      (again : Option Endless) (text : List ℕ) (told : Outgoing) (answer : ℕ)
      → ProgramOf asked.origin source ds image → NamesOf asked.origin source frames
      → PlacesOf asked.origin source places → stays asked.care ≡ false
      → WarnGives (atlas_in ds frames (finds_wraps asked.care)) (legend_in ds places asked.files) source
      (image_of ds).functions (machine ds) asked.steps ends.input ends.input_after ends.out ends.out_after stop text
      → IfSome again (IsEndless ds image (functions_of ds) frames ends.input ends.input_after)
      → TellsOver (legend_in ds places asked.files) source stop again ends.line told answer
      → Reported (told_after answer text) answer told ends.line_after status
      → Runs asked source ends status
  not_begun : (ds : List Definition) (image : Image) (result : Outcome)
      → ProgramOf asked.origin source ds image → IsSuited asked.origin source → BeginsNot image result
      → Finishes result ends.line ends.line_after status → HasNotRun ends → Runs asked source ends status
  stopped : NoProgramOf asked.origin source (fault_lines asked.files) ends.line ends.line_after status → HasNotRun ends
      → Runs asked source ends status
