-- Promise: what comes of a program whose steps are written.
use Rattle.std.specs.Prelude.{◌≡◌, ℕ, ◌+◌, ◌-◌, ◌==◌, ◌&&◌, Bool, true, false, List, [], ◌++◌, Option, Some, None}
use Rattle.std.specs.Prelude.{IfSome, codes, drop, filter, length, nat_le, option_map, refl, if◌then◌else◌}
use Rattle.std.specs.List.{flat_map, range_with_len}
use Rattle.std.specs.Option.{option_map_or}
use Rattle.blang.specs.declared.code.Definition.{Definition}
use Rattle.blang.specs.declared.status.TheConstants.{DONE, MEMORY, WRONG_COMMAND}
use Rattle.blang.specs.Machine.{Image, image_of, machine, run}
use Rattle.blang.specs.Reports.{Finishes, HasNotRun, Reported, RunEnds}
use Rattle.bmach.specs.Readings.{ReadBySteps}
use Rattle.bmach.specs.Stepping.{BeginsNot}
use Rattle.blang.specs.declared.run.Outcome.{Outcome}
use Rattle.blang.specs.declared.run.Outcome.TheVariants as outcome
use Rattle.bmach.specs.declared.machine.Active.{Active}
use Rattle.btools.specs.FaultPlaces.{fault_lines}
use Rattle.btools.specs.Functions.{Placed, function_named, functions_of}
use Rattle.btools.specs.Origins.{IsSuited, NamesOf, NoProgramOf, Origin, PlacesOf, ProgramOf, SourcePlaces}
use Rattle.btools.specs.declared.names.Frame.{Frame}
use Rattle.btools.specs.Programs.{TellsEnd}
use Rattle.bsources.specs.Files.{Files}
use Rattle.bwatch.specs.Sights.{Sight, Sights, stored_between}
use Rattle.bwatch.specs.Watches.{Watches}
use Rattle.bendless.specs.Repeats.{ComesBack}
use Rattle.bendless.specs.declared.search.Repeat.{Repeat}
use Rattle.btrace.specs.Loops.{again_text}
use Rattle.btrace.specs.RowTexts.{Legend, legend_in, places_text, step_row, stored_text, written_row}
use Rattle.bwatch.specs.Trails.{chosen, first_of}
use Rattle.btrace.specs.declared.tracing.TheConstants.{HEADING, UNNAMED}
use Rattle.btrace.specs.declared.tracer.Which.{Which}
use Rattle.bwatch.specs.declared.trail.TraceRows.{TraceRows}

-- the columns of a trace
trace_heading : HEADING.now ≡ codes "    step  function place  line  code         operands, signed\n"
trace_heading = refl

-- what is said of a name that no function has
unnamed_line : UNNAMED.now ≡ codes "error: the source has no function of this NAME\n"
unnamed_line = refl

-- which steps are shown: those of the function of a name, from a number on or the last ones; none where no function
-- has the name
abbrev pub which_of : List Placed → TraceRows → (name : Option (List ℕ)) → Option Which
which_of fs rows None = Some (record { rows = rows; function = None })
which_of fs rows (Some name) =
    option_map (λ f. record { rows = rows; function = Some f.strings }) (function_named fs name)

-- whether a step may be shown that has this number, of a call of the function with its string words there
abbrev pub is_wanted : Which → (number strings : ℕ) → Bool
is_wanted which number strings =
    nat_le (first_of which.rows) number && option_map_or (λ f. strings == f) which.function true

abbrev pub is_step : Which → (number : ℕ) → Option Active → Bool
is_step which number call = option_map_or (λ c. is_wanted which number c.strings) call false

-- The first step has the number 1 and comes after none. A run that is over makes no step.
abbrev pub is_shown : Which → Sights → (made : ℕ) → Bool
is_shown which sights made = is_step which (made + 1) (sights made).call

-- the steps among so many that may be shown, each by the number of those before it
abbrev pub wanted_of : Which → Sights → (made : ℕ) → List ℕ
wanted_of which sights made = filter (is_shown which sights) (range_with_len 0 made)

-- those that are shown: all of them, or the last ones
abbrev pub shown_of : Which → Sights → (made : ℕ) → List ℕ
shown_of which sights made = chosen which.rows (wanted_of which sights made)

-- a row with the machine before a step
abbrev pub sight_row : Legend → (number : ℕ) → Sight → List ℕ
sight_row legend number s = option_map_or (λ call. step_row legend number call s.operands) s.call []

-- what a step did: each word that it stored, as it is after it, and what it wrote
abbrev pub done_text : (before after : Sight) → List ℕ
done_text before after =
    stored_text after.store (stored_between before after) ++ written_row (drop (length before.output) after.output)

-- a step, by the number of those before it
abbrev pub step_text : Legend → Sights → (made : ℕ) → List ℕ
step_text legend sights made =
    sight_row legend (made + 1) (sights made) ++ done_text (sights made) (sights (made + 1))

abbrev pub rows_text : Legend → Which → Sights → (made : ℕ) → List ℕ
rows_text legend which sights made = flat_map (step_text legend sights) (shown_of which sights made)

-- where a run was over: at the call that was seen, with the words of this store
abbrev pub where_text : Legend → Sight → (store : List ℕ) → List ℕ
where_text legend s store = option_map_or (λ call. places_text legend store call s.below) s.call []

-- What stands after the rows: where a trap was, which is before the last step, or where the run is at the limit; or the
-- row of a step that could not read, if it is to be shown.
abbrev pub ending_text : Legend → Which → Sights → (made : ℕ) → Outcome → List ℕ
ending_text legend which sights made (outcome.Trap kind) =
    where_text legend (sights (made - 1)) (sights made).store
ending_text legend which sights made outcome.Limit = where_text legend (sights made) (sights made).store
ending_text legend which sights made outcome.Device =
    if is_shown which sights made then sight_row legend (made + 1) (sights made) else []
ending_text legend which sights made result = []

abbrev pub trace_text : Legend → Which → Sights → (made : ℕ) → Outcome → List ℕ
trace_text legend which sights made result =
    HEADING.now ++ rows_text legend which sights made ++ ending_text legend which sights made result

-- a text is the trace of a run of so many steps with this outcome, and then tells that a state comes again, if one does
abbrev pub IsTrace : Legend → Which → Option Repeat → (text : List ℕ) → Sights → (made : ℕ) → Outcome → Type 0
IsTrace legend which again text sights made result =
    text ≡ trace_text legend which sights made result ++ again_text legend again

-- The program of this origin was run for so many steps at most, as the machine runs it, and its trace written, with a
-- state of its image that comes again, if one was found; or it
-- did not begin; or no function has the name, and that was told; or there is no program, and why was told; or memory
-- was refused, and nothing was written, or read but by some of its steps. Wherever there is a program, what stands
-- beside its code text suits it.
pub data Traces (origin : Origin) (source : List ℕ) (steps : ℕ) (shown : TraceRows) (files : Files)
    (name : Option (List ℕ)) (ends : RunEnds) (status : ℕ) : Type 0 where
  traced : (ds : List Definition) (image : Image) (places : SourcePlaces) (frames : List Frame) (which : Which)
      (result : Outcome) (made : ℕ) (again : Option Repeat) (text : List ℕ) (told : ℕ)
      → ProgramOf origin source ds image → PlacesOf origin source places → NamesOf origin source frames
      → which_of (functions_of ds) shown name ≡ Some which
      → IfSome again (ComesBack (run image) ends.input ends.input_after)
      → Watches (image_of ds).functions (machine ds) steps ends.input ends.input_after result made
      (IsTrace (legend_in ds places files) which again text)
      → Reported text DONE ends.out ends.out_after told → TellsEnd told result ends.line ends.line_after status
      → Traces origin source steps shown files name ends status
  not_begun : (ds : List Definition) (image : Image) (which : Which) (result : Outcome)
      → ProgramOf origin source ds image → IsSuited origin source
      → which_of (functions_of ds) shown name ≡ Some which → BeginsNot image result
      → Finishes result ends.line ends.line_after status → HasNotRun ends
      → Traces origin source steps shown files name ends status
  unnamed : (ds : List Definition) (image : Image) → ProgramOf origin source ds image → IsSuited origin source
      → which_of (functions_of ds) shown name ≡ None
      → Reported UNNAMED.now WRONG_COMMAND ends.line ends.line_after status → HasNotRun ends
      → Traces origin source steps shown files name ends status
  stopped : NoProgramOf origin source (fault_lines files) ends.line ends.line_after status → HasNotRun ends
      → Traces origin source steps shown files name ends status
  no_memory : (ds : List Definition) (image : Image) → ProgramOf origin source ds image → IsSuited origin source
      → ends.line_after ≡ ends.line → ends.out_after ≡ ends.out
      → ReadBySteps (machine ds) steps ends.input ends.input_after → status ≡ MEMORY
      → Traces origin source steps shown files name ends status
