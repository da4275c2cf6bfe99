-- Promise: what comes of a program that is run and where its run was over is told.
use Rattle.std.specs.Prelude.{◌≡◌, ◌⊎◌, ℕ, List, [], ◌++◌, Option, Some, None, IfSome, codes, decimal}
use Rattle.bword.specs.ByteEnds.{Outgoing}
use Rattle.blang.specs.declared.code.Definition.{Definition}
use Rattle.blang.specs.declared.run.Outcome.{Outcome}
use Rattle.blang.specs.declared.run.Outcome.TheVariants as outcome
use Rattle.blang.specs.declared.run.Trap.TheVariants as trap
use Rattle.blang.specs.declared.status.TheConstants.{MEMORY}
use Rattle.blang.specs.Machine.{Image, machine}
use Rattle.bendless.specs.Repeats.{IsEndless}
use Rattle.bendless.specs.Tellings.{repeat_text}
use Rattle.bendless.specs.declared.endless.Endless.{Endless}
use Rattle.blang.specs.Reports.{Finishes, HasNotRun, RunEnds, RunGives, Reported}
use Rattle.bmach.specs.Stepping.{BeginsNot}
use Rattle.bmach.specs.Stops.{IsOverAt}
use Rattle.bmach.specs.declared.machine.Active.{Active}
use Rattle.btools.specs.FaultPlaces.{fault_lines}
use Rattle.btools.specs.Functions.{functions_of}
use Rattle.btools.specs.Origins.{IsSuited, NamesOf, NoProgramOf, Origin, PlacesOf, ProgramOf, SourcePlaces}
use Rattle.btools.specs.Programs.{located_status}
use Rattle.bsources.specs.Files.{Files}
use Rattle.btools.specs.declared.names.Frame.{Frame}
use Rattle.btrace.specs.Loops.{loop_text}
use Rattle.btrace.specs.RowTexts.{Legend, legend_in, site_text, source_text}

-- the place of a call, and the number of the step with which the run came there
abbrev pub site_line : Legend → Active → (number : ℕ) → List ℕ
site_line legend call number =
    codes "at     " ++ site_text legend call ++ codes "  step " ++ decimal number ++ codes "\n"

-- what a trap or the limit means
abbrev pub meaning : Outcome → List ℕ
meaning (outcome.Trap trap.ZeroDivisor) = codes "a division by 0"
meaning (outcome.Trap trap.NotAFunction) = codes "a call of something that is no function"
meaning (outcome.Trap trap.NotALabel) = codes "a goto to something that is no label of the function"
meaning (outcome.Trap trap.NoRoom) = codes "a call whose frame has no room in memory"
meaning (outcome.Trap trap.TooDeep) = codes "more than 4096 active calls"
meaning (outcome.Trap trap.BadBase) = codes "a base of printn that isn't 2 to 10"
meaning (outcome.Trap trap.Stuck) = codes "too few operands, or no instruction at this place"
meaning outcome.Limit = codes "no end within so many steps; --steps N or --no-limit gives more"
meaning result = []

abbrev pub meaning_text : Outcome → Option Endless → List ℕ
meaning_text result None = meaning result
meaning_text result (Some e) = repeat_text e.repeat

-- the line of the source, and what the outcome means
abbrev pub explanation : Legend → (source : List ℕ) → Outcome → Option Endless → Active → List ℕ
explanation legend source result again call =
    source_text legend source call ++ codes "  means: " ++ meaning_text result again ++ codes "\n"

abbrev pub told_site : Legend → (source : List ℕ) → Outcome → Active → (number : ℕ) → Option Endless → List ℕ
told_site legend source result call number again =
    site_line legend call number ++ explanation legend source result again call ++ loop_text legend source again

-- A line with this place and this step, the line there and the meaning were written, and the place of the loop; or memory
-- was refused for it.
abbrev pub TellsSite : Legend → (source : List ℕ) → Outcome → Active → (number : ℕ) → Option Endless → (answer : ℕ)
    → (old new : Outgoing) → (status : ℕ) → Type 0
TellsSite legend source result call number again answer old new status =
    Reported (told_site legend source result call number again) answer old new status
    ⊎ ((new ≡ old) × (status ≡ MEMORY))

-- The program of this origin was run for so many steps at most, as the machine runs it, and has its line and status;
-- and if that is the line of a trap or of the limit, where it was over was told after it, and with which step, and that
-- it never ends if a state of its image comes again, with what its loop does. Or the program did not begin, or there is
-- none, and why was told; or memory was refused. Wherever there is a program, what stands beside its code text suits
-- it.
pub data Locates (origin : Origin) (source : List ℕ) (files : Files) (steps : ℕ) (ends : RunEnds) (status : ℕ)
    : Type 0 where
  located : (told : Outgoing) (ds : List Definition) (image : Image) (frames : List Frame) (places : SourcePlaces)
      (result : Outcome) (answer : ℕ) (active : Active) (made : ℕ) (again : Option Endless)
      → ProgramOf origin source ds image → NamesOf origin source frames → PlacesOf origin source places
      → RunGives (machine ds) steps ends.input ends.input_after ends.out ends.out_after result
      → Finishes result ends.line told answer → located_status result ≡ Some answer
      → IsOverAt (machine ds) steps ends.input ends.input_after result active made
      → IfSome again (IsEndless ds image (functions_of ds) frames ends.input ends.input_after)
      → TellsSite (legend_in ds places files) source result active made again answer told ends.line_after status
      → Locates origin source files steps ends status
  unlocated : (ds : List Definition) (image : Image) (result : Outcome)
      → ProgramOf origin source ds image → IsSuited origin source
      → RunGives (machine ds) steps ends.input ends.input_after ends.out ends.out_after result
      → Finishes result ends.line ends.line_after status → (located_status result ≡ Some status → ⊥)
      → Locates origin source files steps ends status
  not_begun : (ds : List Definition) (image : Image) (result : Outcome)
      → ProgramOf origin source ds image → IsSuited origin source → BeginsNot image result
      → Finishes result ends.line ends.line_after status → HasNotRun ends
      → Locates origin source files steps ends status
  stopped : NoProgramOf origin source (fault_lines files) ends.line ends.line_after status → HasNotRun ends
      → Locates origin source files steps ends status
