-- Promise: the page of a run.
use Rattle.std.specs.Prelude.{◌≡◌, ℕ, ◌+◌, ◌-◌, List, [], ◌++◌, Option, Some, None, IfSome, codes, decimal, filter}
use Rattle.std.specs.Prelude.{nat_le, option_map}
use Rattle.std.specs.List.{flat_map, range_with_len}
use Rattle.bword.specs.ByteEnds.{Kept, outgoing_of}
use Rattle.blang.specs.declared.code.Definition.{Definition}
use Rattle.blang.specs.declared.run.Outcome.{Outcome}
use Rattle.blang.specs.declared.run.Outcome.TheVariants as outcome
use Rattle.blang.specs.declared.run.Trap.{Trap}
use Rattle.blang.specs.declared.status.TheConstants.{DEVICE, DONE, MEMORY}
use Rattle.blang.specs.Machine.{Image, image_of, machine, run}
use Rattle.blang.specs.Reports.{HasNotRun, Reported, RunEnds, RunGives}
use Rattle.bmach.specs.Readings.{ReadBySteps}
use Rattle.bmach.specs.Stepping.{BeginsNot}
use Rattle.bsources.specs.Files.{Files, files_shown}
use Rattle.btools.specs.declared.names.Frame.{Frame}
use Rattle.btools.specs.FaultPlaces.{fault_lines}
use Rattle.bendless.specs.Repeats.{ComesBack}
use Rattle.bendless.specs.declared.search.Repeat.{Repeat}
use Rattle.btools.specs.Origins.{IsSuited, LinesOf, NamesOf, NoProgramOf, Origin, ProgramOf}
use Rattle.btools.specs.ProgramLines.{line_at}
use Rattle.btools.specs.Programs.{nothing_written}
use Rattle.bwatch.specs.Trails.{chosen, first_of}
use Rattle.bwatch.specs.declared.trail.TraceRows.{TraceRows}
use Rattle.bwatch.specs.Sights.{Sights}
use Rattle.bwatch.specs.Watches.{Watches}
use Rattle.bshow.specs.Escapes.{escaped}
use Rattle.bshow.specs.Facts.{no_run_text, program_text, run_text, sentence, unbegun_sentence}
use Rattle.bshow.specs.Rows.{LinedCode, heard_between, lined_code, row_text, sight_cells}
use Rattle.bshow.specs.declared.page.TheConstants.{BETWEEN, HEAD, SCRIPT, TAIL}
use Rattle.bshow.specs.declared.showing.PageRequest.{PageRequest}

-- the steps among so many that may be shown, each by the number of those before it, and those that are
abbrev pub wanted_of : TraceRows → (made : ℕ) → List ℕ
wanted_of which made = filter (λ n. nat_le (first_of which) (n + 1)) (range_with_len 0 made)

abbrev pub shown_of : TraceRows → (made : ℕ) → List ℕ
shown_of which made = chosen which (wanted_of which made)

abbrev pub rows_text : LinedCode → TraceRows → Sights → (made : ℕ) → List ℕ
rows_text code which sights made = flat_map (row_text code sights) (shown_of which made)

-- where the run goes on, the row of the step that comes next tells the call before it
abbrev pub next_text : LinedCode → Sights → (made : ℕ) → Outcome → List ℕ
next_text code sights made outcome.Limit = sight_cells code (made + 1) (sights made) ++ codes "</tr>\n"
next_text code sights made result = []

-- Told are the calls below the running one before the next step, or, where the run is over, before the last one.
abbrev pub calls_at : (made : ℕ) → Outcome → ℕ
calls_at made outcome.Limit = made
calls_at made result = made - 1

-- what was read by `getchar` in so many steps
abbrev pub heard_text : LinedCode → Sights → (made : ℕ) → List ℕ
heard_text code sights made =
    flat_map (λ n. heard_between code (sights n) (sights (n + 1))) (range_with_len 0 made)

abbrev pub facts_text : LinedCode → Sights → (made : ℕ) → Outcome → List ℕ
facts_text code sights made result =
    run_text (sights (calls_at made result)).below (calls_at made result) (sights made).store
    (heard_text code sights made) (sights made).output

-- the page: its fixed parts, and between them the rows, what came of the run, and the facts
unfoldable pub head : List ℕ
head = HEAD.now

unfoldable pub tail : List ℕ
tail = TAIL.now

-- what stands between the rows of a run and its facts: what came of it, and what is told of the program
abbrev pub said_text : (sentence program : List ℕ) → List ℕ
said_text sentence program = BETWEEN.now ++ sentence ++ SCRIPT.now ++ program

abbrev pub open_text : (rows sentence program facts : List ℕ) → List ℕ
open_text rows sentence program facts = head ++ rows ++ said_text sentence program ++ facts

abbrev pub page_text : (rows sentence program facts : List ℕ) → List ℕ
page_text rows sentence program facts = open_text rows sentence program facts ++ tail

-- that of so many steps of a run, with this text about its program, up to the last of its facts
abbrev pub open_page : LinedCode → TraceRows → (program : List ℕ) → Sights → (made : ℕ) → Outcome → List ℕ
open_page code which program sights made result =
    open_text (rows_text code which sights made ++ next_text code sights made result) (sentence result made) program
    (facts_text code sights made result)

-- the fact of a finding of the next step, if there is one: what is wrong with it
abbrev pub finding_fact : (finding : Option (List ℕ)) → List ℕ
finding_fact None = []
finding_fact (Some text) = codes ",\"finding\":\"" ++ escaped text ++ codes "\""

-- the last fact, if a state comes again: after how many steps, and the function and the line of its call
abbrev pub again_fact : LinedCode → Option Repeat → List ℕ
again_fact code None = codes "}"
again_fact code (Some r) =
    codes ",\"again\":[" ++ decimal r.first ++ codes "," ++ decimal r.again ++ codes "," ++ decimal r.call.strings
    ++ codes "," ++ decimal (line_at code.lines r.call.strings r.call.place) ++ codes "]}"

-- the facts that are known after the run
abbrev pub last_facts : LinedCode → (finding : Option (List ℕ)) → Option Repeat → List ℕ
last_facts code finding again = finding_fact finding ++ again_fact code again

-- the page of so many steps of a run, whose facts end so
abbrev pub run_page : LinedCode → TraceRows → (last program : List ℕ) → Sights → (made : ℕ) → Outcome → List ℕ
run_page code which last program sights made result = open_page code which program sights made result ++ last ++ tail

-- A text is the page of a run. There is none where a read failed.
abbrev pub IsPageOf : LinedCode → TraceRows → (last program page : List ℕ) → Sights → (made : ℕ) → Outcome → Type 0
IsPageOf code which last program page sights made outcome.Device = ⊥
IsPageOf code which last program page sights made result = page ≡ run_page code which last program sights made result

-- what is asked for
pub record Asked : Type 0 where
  pub steps : ℕ
  pub which : TraceRows
  pub files : Files
  pub given : List ℕ
  pub finding : Option (List ℕ)

-- what is asked for, by the type of the code
abbrev pub asked_of : PageRequest → Asked
asked_of w = record {
  steps = w.steps;
  which = w.rows;
  files = files_shown w.files;
  given = w.given.now;
  finding = option_map (λ text. text.now) w.finding;
}

-- the page of a run that had no first step
abbrev pub unbegun_page : (program : List ℕ) → Trap → List ℕ
unbegun_page program kind = page_text [] (unbegun_sentence kind) program no_run_text

-- The page was written and its status is 0, or the write was refused.
abbrev pub IsWritten : List ℕ → RunEnds → ℕ → Type 0
IsWritten page ends status = Reported page DONE ends.out ends.out_after status

-- The program of this origin was run for so many steps at most, as the machine runs it, and its page written, which
-- tells the finding that was handed over, if there is one, and a state of its image that comes again, if one was
-- found; or it did not begin, which the page says; or it could not read its input; or there is no program, and why was
-- told; or memory was refused, and nothing was written, or read but by some of its steps.
pub data Shows (origin : Origin) (source : List ℕ) (asked : Asked) (ends : RunEnds) (status : ℕ) : Type 0 where
  shown : (ds : List Definition) (image : Image) (frames : List Frame) (lines : List ℕ) (result : Outcome) (made : ℕ)
      (again : Option Repeat) (page : List ℕ) → ProgramOf origin source ds image → LinesOf origin source lines
      → NamesOf origin source frames → ends.line_after ≡ ends.line
      → IfSome again (ComesBack (run image) ends.input ends.input_after)
      → Watches (image_of ds).functions (machine ds) asked.steps ends.input ends.input_after result made
      (IsPageOf (lined_code ds lines) asked.which (last_facts (lined_code ds lines) asked.finding again)
      (program_text asked.files source asked.given ds frames) page)
      → IsWritten page ends status → Shows origin source asked ends status
  not_begun : (ds : List Definition) (image : Image) (frames : List Frame) (kind : Trap)
      → ProgramOf origin source ds image → IsSuited origin source → NamesOf origin source frames
      → ends.line_after ≡ ends.line
      → BeginsNot image (outcome.Trap kind)
      → IsWritten (unbegun_page (program_text asked.files source asked.given ds frames) kind) ends status
      → ends.input_after ≡ ends.input → Shows origin source asked ends status
  unread : (ds : List Definition) (image : Image) (output : Kept)
      → ProgramOf origin source ds image → IsSuited origin source → ends.line_after ≡ ends.line
      → RunGives (machine ds) asked.steps ends.input ends.input_after nothing_written (outgoing_of output)
      outcome.Device → ends.out_after ≡ ends.out → status ≡ DEVICE → Shows origin source asked ends status
  stopped : NoProgramOf origin source (fault_lines asked.files) ends.line ends.line_after status → HasNotRun ends
      → Shows origin source asked ends status
  no_memory : (ds : List Definition) (image : Image)
      → ProgramOf origin source ds image → IsSuited origin source → ends.line_after ≡ ends.line
      → ends.out_after ≡ ends.out
      → ReadBySteps (machine ds) asked.steps ends.input ends.input_after → status ≡ MEMORY
      → Shows origin source asked ends status
