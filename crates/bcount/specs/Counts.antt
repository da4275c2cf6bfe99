-- Promise: what comes of a program whose steps are counted.
use Rattle.std.specs.Prelude.{◌≡◌, ℕ, ◌+◌, ◌-◌, ◌==◌, Bool, true, false, List, Option, Some, find, map, min, option_map}
use Rattle.std.specs.Prelude.{unwrap_or, if◌then◌else◌}
use Rattle.std.specs.List.{enumerate_from, flat_map, range_with_len, slice_get, sum_by}
use Rattle.bsources.specs.Files.{Files, files_shown}
use Rattle.bword.specs.ByteEnds.{Kept, most, outgoing_of}
use Rattle.blang.specs.declared.code.Definition.{Definition}
use Rattle.blang.specs.declared.run.Outcome.{Outcome}
use Rattle.blang.specs.declared.run.Outcome.TheVariants as outcome
use Rattle.blang.specs.declared.status.TheConstants.{DEVICE, DONE, MEMORY}
use Rattle.blang.specs.Machine.{Image, image_of, machine}
use Rattle.blang.specs.Reports.{Finishes, HasNotRun, Reported, RunEnds, RunGives}
use Rattle.bmach.specs.Readings.{ReadBySteps}
use Rattle.bmach.specs.Stepping.{BeginsNot}
use Rattle.btools.specs.Functions.{Placed, functions_of}
use Rattle.btools.specs.FaultPlaces.{fault_lines}
use Rattle.btools.specs.Origins.{Code, IsSuited, LinesOf, NamesOf, NoProgramOf, Origin, ProgramOf, Source, origin_shown}
use Rattle.btools.specs.declared.names.Frame.{Frame}
use Rattle.btools.specs.ProgramLines.{FunctionLines, line_in, lined_functions}
use Rattle.btools.specs.Programs.{TellsEnd, nothing_written}
use Rattle.bwatch.specs.Sights.{Sights}
use Rattle.bwatch.specs.Watches.{Watches}
use Rattle.btools.specs.SourceLines.{last_line}
use Rattle.bcount.specs.Tables.{table_text}
use Rattle.bcount.specs.Tallies.{counts_of}
use Rattle.bcount.specs.declared.counting.Counting.{Counting}
use Rattle.bcount.specs.declared.lines.Counted.{Counted}
use Rattle.bcount.specs.declared.lines.LineCount.{LineCount}
use Rattle.bcount.specs.declared.table.CountStyle.{CountStyle}

-- what is asked for
pub record Asked : Type 0 where
  pub origin : Origin
  pub steps : ℕ
  pub files : Files
  pub style : CountStyle

abbrev pub asked_of : Counting → Asked
asked_of c =
    record { origin = origin_shown c.origin; steps = c.steps; files = files_shown c.files; style = c.style }

-- whether the source is one of B
abbrev pub is_source : Origin → Bool
is_source (Source edition) = true
is_source (Code c) = false

-- how often the first instruction of a line was made, if it has one
abbrev pub times_on : List Counted → (line : ℕ) → Option ℕ
times_on counted line = option_map (λ c. c.count) (find (λ c. c.line == line) counted)

-- how many steps all of its instructions took
abbrev pub steps_on : List Counted → (line : ℕ) → ℕ
steps_on counted line = min (sum_by (λ c. if c.line == line then c.count else 0) counted) most

abbrev pub line_count : List Counted → (line : ℕ) → LineCount
line_count counted line = record { times = times_on counted line; steps = steps_on counted line }

-- what the code of a line did, with an instruction more
abbrev pub with_count : LineCount → (count : ℕ) → LineCount
with_count c count = record { times = Some (unwrap_or c.times count); steps = min (c.steps + count) most }

-- the counts of the first rows
abbrev pub line_counts : List Counted → (rows : ℕ) → List LineCount
line_counts counted rows = map (line_count counted) (range_with_len 1 rows)

-- the row of a line: that of 0, which is none, is the last one, and comes after those of the lines
abbrev pub row_of : (rows line : ℕ) → ℕ
row_of rows line = if line == 0 then rows else min line (rows - 1)

-- an instruction of a function, on its line, with how often it was made
abbrev pub counted_at : (rows : ℕ) → Option FunctionLines → (place count : ℕ) → Counted
counted_at rows f place count = record { line = row_of rows (line_in f place); count = count }

abbrev pub counted_in : (rows : ℕ) → Option FunctionLines → (counts : List ℕ) → List Counted
counted_in rows f counts = map (λ x. counted_at rows f x.0 x.1) (enumerate_from 0 counts)

-- all instructions, function by function
abbrev pub counted_of : (rows : ℕ) → List FunctionLines → (tallies : List (List ℕ)) → List Counted
counted_of rows fs tallies = flat_map (λ x. counted_in rows (slice_get fs x.0) x.1) (enumerate_from 0 tallies)

-- a row for each line of a source, and one for code that comes from none
abbrev pub rows_of : (source : List ℕ) → ℕ
rows_of source = last_line source + 1

-- what the code of each line of a source did, and last what that of none did, by the lines of its functions and the
-- counts of their instructions
abbrev pub counts_by_line : (source : List ℕ) → List FunctionLines → (tallies : List (List ℕ)) → List LineCount
counts_by_line source fs tallies = line_counts (counted_of (rows_of source) fs tallies) (rows_of source)

abbrev pub count_text : Asked → (source : List ℕ) → List FunctionLines → (tallies : List (List ℕ)) → (made : ℕ) → List ℕ
count_text asked source fs tallies made =
    table_text asked.style (is_source asked.origin) asked.files source (counts_by_line source fs tallies) made

-- Each count is how often this instruction was made in so many steps. There are none where a read failed.
abbrev pub AreCounts : List Placed → (tallies : List (List ℕ)) → Sights → (made : ℕ) → Outcome → Type 0
AreCounts functions tallies sights made outcome.Device = ⊥
AreCounts functions tallies sights made result = tallies ≡ map (counts_of sights made) functions

-- The program of this origin was run for so many steps at most, as the machine runs it, and its counts written, each
-- instruction on its own line; or a read of it failed, and nothing was written; or it did not begin, or there is none,
-- and why was told; or memory was refused, and nothing was written, or read but by some of its steps. Wherever there is
-- a program, what stands beside its code text suits it.
pub data Counts (asked : Asked) (source : List ℕ) (ends : RunEnds) (status : ℕ) : Type 0 where
  counted : (ds : List Definition) (image : Image) (result : Outcome) (made : ℕ) (tallies : List (List ℕ))
      (lines : List ℕ) (frames : List Frame) (told : ℕ) → ProgramOf asked.origin source ds image
      → Watches (image_of ds).functions (machine ds) asked.steps ends.input ends.input_after result made
      (AreCounts (functions_of ds) tallies)
      → LinesOf asked.origin source lines → NamesOf asked.origin source frames
      → Reported (count_text asked source (lined_functions ds lines) tallies made) DONE ends.out ends.out_after told
      → TellsEnd told result ends.line ends.line_after status → Counts asked source ends status
  unread : (ds : List Definition) (image : Image) (output : Kept)
      → ProgramOf asked.origin source ds image → IsSuited asked.origin source → ends.line_after ≡ ends.line
      → RunGives (machine ds) asked.steps ends.input ends.input_after nothing_written (outgoing_of output) outcome.Device
      → ends.out_after ≡ ends.out → status ≡ DEVICE → Counts asked source ends status
  not_begun : (ds : List Definition) (image : Image) (result : Outcome)
      → ProgramOf asked.origin source ds image → IsSuited asked.origin source → BeginsNot image result
      → Finishes result ends.line ends.line_after status → HasNotRun ends → Counts asked source ends status
  stopped : NoProgramOf asked.origin source (fault_lines asked.files) ends.line ends.line_after status → HasNotRun ends
      → Counts asked source ends status
  no_memory : (ds : List Definition) (image : Image)
      → ProgramOf asked.origin source ds image → IsSuited asked.origin source → ends.line_after ≡ ends.line
      → ends.out_after ≡ ends.out
      → ReadBySteps (machine ds) asked.steps ends.input ends.input_after → status ≡ MEMORY
      → Counts asked source ends status
