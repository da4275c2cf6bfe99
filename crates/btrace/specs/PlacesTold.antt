-- Promise: which place is told where a run was over, for each program.
use Rattle.std.specs.Prelude.{◌≡◌, ℕ, ◌+◌, ◌<◌, List, [], ◌++◌, Option, Some, None, IfSome}
use Rattle.bendless.specs.Repeats.{RunsForEver}
use Rattle.bendless.specs.declared.endless.Endless.{Endless}
use Rattle.blang.specs.declared.code.Definition.{Definition}
use Rattle.blang.specs.declared.run.Outcome.{Outcome}
use Rattle.blang.specs.declared.run.Outcome.TheVariants as outcome
use Rattle.blang.specs.declared.run.Report.TheVariants as report
use Rattle.blang.specs.declared.run.Trap.{Trap}
use Rattle.blang.specs.declared.status.TheConstants.{LIMIT, TRAP}
use Rattle.blang.specs.Machine.{machine}
use Rattle.blang.specs.Reports.{RunEnds, report_text, state_outcome}
use Rattle.bmach.specs.Stops.{RunsCall}
use Rattle.bmach.specs.declared.machine.Active.{Active}
use Rattle.bsources.specs.Files.{Files}
use Rattle.btools.specs.Origins.{Origin, PlacesOf, SourcePlaces}
use Rattle.btrace.specs.Locates.{Locates, told_site}
use Rattle.btrace.specs.RowTexts.{legend_in}
use Rattle.btrace.specs.TraceExcluded.{ComesAlways, IsCodeIn}

module _ (origin : Origin) (source : List ℕ) (files : Files) (ds : List Definition) (steps : ℕ) (ends : RunEnds)
    (text : List ℕ) where
  -- The program has these definitions, its run begins, and this text was written of it, with this status.
  pub record IsLocated (status : ℕ) : Type 0 where
    pub compiles : IsCodeIn origin source ds
    pub begins : ComesAlways ds 0 outcome.Limit
    pub before : ends.line.written ≡ Some []
    pub after : ends.line_after.written ≡ Some text
    pub some : text ≡ [] → ⊥
    pub locates : Locates origin source files steps ends status

  -- It is this line, and then the place of this call, with the line of the source, after so many steps.
  abbrev pub TellsPlaceOf : (line : List ℕ) → Outcome → Active → (number : ℕ) → Option Endless → Type 0
  TellsPlaceOf line result call number again =
      (places : SourcePlaces) × PlacesOf origin source places
      × (text ≡ line ++ told_site (legend_in ds places files) source result call number again)

  -- At the limit the call that runs after all steps is told, and after a trap the one that ran before its step. Where it is
  -- told that a state comes again, the machine has not halted after any number of steps.
  pub record PlaceIsTold : Type 0 where
    pub at_limit : (call : Active) → ((input : List ℕ) → RunsCall (machine ds input steps) call)
        → IsLocated LIMIT
        → (again : Option Endless) × TellsPlaceOf (report_text report.Limit) outcome.Limit call steps again
    pub never_ends : IsLocated LIMIT
        → (call : Active) × (again : Option Endless)
        × TellsPlaceOf (report_text report.Limit) outcome.Limit call steps again
        × IfSome again (λ e. RunsForEver (machine ds) ends.input ends.input_after)
    pub at_trap : (call : Active) (last : ℕ) (kind : Trap) → last < steps
        → ((input : List ℕ) → RunsCall (machine ds input last) call)
        → ((input : List ℕ) → state_outcome (machine ds input (last + 1)) ≡ outcome.Trap kind)
        → IsLocated TRAP → TellsPlaceOf (report_text (report.Trap kind)) (outcome.Trap kind) call (last + 1) None

-- for each source, each program and each run
abbrev pub PlacesTold : Type 0
PlacesTold =
    (origin : Origin) (source : List ℕ) (files : Files) (ds : List Definition) (steps : ℕ) (ends : RunEnds)
    (text : List ℕ) → PlaceIsTold origin source files ds steps ends text
