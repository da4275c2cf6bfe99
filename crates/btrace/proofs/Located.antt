-- Where a program that was loaded stopped is where its definitions stop.
use Rattle.std.proofs.Common.{◌≡◌, ◌∙◌, ◌≤◌, ℕ, List, [], ◌++◌, Option, Some, subst}
use Rattle.std.specs.Prelude.{IfSome}
use Rattle.bendless.specs.Repeats.{IsEndless}
use Rattle.bendless.specs.declared.endless.Endless.{Endless}
use Rattle.bword.specs.ByteEnds.{Outgoing}
use Rattle.blang.specs.declared.code.Definition.{Definition}
use Rattle.blang.specs.declared.run.Outcome.{Outcome}
use Rattle.blang.specs.Machine.{Image}
use Rattle.blang.specs.Reports.{Finishes, RunEnds, RunGives}
use Rattle.bmach.specs.Stepping.{IsUnstarted, Paused}
use Rattle.bmach.specs.Stops.{IsOverAt}
use Rattle.bmach.specs.declared.machine.Active.{Active}
use Rattle.bsources.specs.Files.{Files}
use Rattle.btools.specs.Functions.{functions_of}
use Rattle.btools.specs.Origins.{IsSuited, NamesOf, Origin, PlacesOf, ProgramOf, SourcePlaces}
use Rattle.btools.specs.declared.names.Frame.{Frame}
use Rattle.btools.specs.Programs.{located_status, steps_from}
use Rattle.btools.proofs.Stopped.{runs_whole, stops_run}
use Rattle.bwatch.proofs.Origins.{loaded_in}
use Rattle.btrace.specs.RowTexts.{Legend, legend_in}
use Rattle.btrace.specs.Locates.{Locates, TellsSite, located, unlocated}

module _ (origin : Origin) (source : List ℕ) (files : Files) (n : ℕ) (ends : RunEnds) (status : ℕ) (ds : List Definition) (image : Image) (p : Paused) (result : Outcome) where
  -- a run whose place was told
  pub located_whole : (told : Outgoing) (legend : Legend) (frames : List Frame) (places : SourcePlaces) (answer : ℕ) (active : Active) (made : ℕ) (again : Option Endless) → ProgramOf origin source ds image → NamesOf origin source frames → PlacesOf origin source places → legend ≡ legend_in ds places files → IsUnstarted image p
      → RunGives (steps_from p) n ends.input ends.input_after ends.out ends.out_after result → Finishes result ends.line told answer → located_status result ≡ Some answer
      → IsOverAt (steps_from p) n ends.input ends.input_after result active made → IfSome again (IsEndless ds image (functions_of ds) frames ends.input ends.input_after) → TellsSite legend source result active made again answer told ends.line_after status → Locates origin source files n ends status
  located_whole told legend frames places answer active made again is named lined same begins gives finishes at stops comes tells =
      located told ds image frames places result answer active made again is named lined (runs_whole ds image p (loaded_in origin source ds image is) begins n ends.input ends.input_after result ends.out ends.out_after gives) finishes at
      (stops_run ds image p (loaded_in origin source ds image is) begins n ends.input ends.input_after result active made stops) comes
      (subst (λ (x : Legend). TellsSite x source result active made again answer told ends.line_after status) same tells)

  -- a run that has no place
  pub unlocated_whole : ProgramOf origin source ds image → IsSuited origin source → IsUnstarted image p → RunGives (steps_from p) n ends.input ends.input_after ends.out ends.out_after result
      → Finishes result ends.line ends.line_after status → (located_status result ≡ Some status → ⊥) → Locates origin source files n ends status
  unlocated_whole is suits begins gives finishes unplaced = unlocated ds image result is suits (runs_whole ds image p (loaded_in origin source ds image is) begins n ends.input ends.input_after result ends.out ends.out_after gives) finishes unplaced
