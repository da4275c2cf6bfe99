-- Promise: what the calls do that show the code of a source, its layout in memory and the steps of its run.
use Rattle.std.specs.Prelude.{ℕ, ◌==◌, if◌then◌else◌, List, None}
use Rattle.bword.specs.ByteEnds.{Unread}
use Rattle.blang.specs.Reports.{RunEnds}
use Rattle.bcount.specs.Counts.{Counts}
use Rattle.bcount.specs.declared.table.CountStyle.{CountStyle}
use Rattle.bcount.specs.declared.table.CountStyle.TheVariants as style
use Rattle.blist.specs.Listings.{Lists}
use Rattle.blist.specs.Maps.{Maps}
use Rattle.bshow.specs.Shows.{Asked, Shows}
use Rattle.bsources.specs.FileLines.{Files}
use Rattle.btools.specs.Origins.{Source}
use Rattle.btools.specs.Programs.{ToldEnds, told_ends}
use Rattle.btrace.specs.Traces.{Traces}
use Rattle.bwatch.specs.declared.trail.TraceRows.{TraceRows}
use Rattle.bwatch.specs.declared.trail.TraceRows.TheVariants as rows
use Rattle.bembed.specs.Calls.{ends_of}
use Rattle.bembed.specs.Rooms.{Filled, Overflow, Room, fresh, stream_of}
use Rattle.bembed.specs.Wholes.{Whole}

-- The last steps have rows, if it is asked for some; else those from a number on.
abbrev pub rows_of : (from last : ℕ) → TraceRows
rows_of from last = if last == 0 then rows.From from else rows.Last last

-- a table for people, or an object for programs
abbrev pub style_of : (is_json : ℕ) → CountStyle
style_of is_json = if is_json == 0 then style.Table else style.Json

-- This is done on an input in memory, into two rooms.
pub record RunsOver (input : List ℕ) (out line : Room) (P : RunEnds → Type 0) : Type 0 where
  pub input_after : Unread
  pub out_over : Overflow
  pub line_over : Overflow
  pub out_filled : Filled out out_over
  pub line_filled : Filled line line_over
  pub runs : P (ends_of input input_after out line out_over line_over)

-- This is told in two rooms.
pub record TellsOver (out line : Room) (P : ToldEnds → Type 0) : Type 0 where
  pub out_over : Overflow
  pub line_over : Overflow
  pub out_filled : Filled out out_over
  pub line_filled : Filled line line_over
  pub tells : P (told_ends fresh (stream_of out out_over) fresh (stream_of line line_over))

-- The code of a source is listed, its layout told, its steps shown and counted, as those of one text in these files.
abbrev pub ListsWhole : (out line : Room) → (status : ℕ) → Whole → Type 0
ListsWhole out line status it = TellsOver out line (λ ends. Lists (Source it.edition) it.text None ends status)

abbrev pub MapsWhole : (out line : Room) → (status : ℕ) → Whole → Type 0
MapsWhole out line status it = TellsOver out line (λ ends. Maps (Source it.edition) it.text ends status)

abbrev pub TracesWhole : (steps : ℕ) → TraceRows → (input : List ℕ) → (out line : Room) → (status : ℕ) → Whole → Type 0
TracesWhole steps which input out line status it = RunsOver input out line
    (λ ends. Traces (Source it.edition) it.text steps which it.files None ends status)

abbrev pub CountsWhole : (steps : ℕ) → CountStyle → (input : List ℕ) → (out line : Room) → (status : ℕ) → Whole → Type 0
CountsWhole steps style input out line status it = RunsOver input out line (λ ends. Counts (record {
  origin = Source it.edition;
  steps = steps;
  files = it.files;
  style = style;
}) it.text ends status)

-- a page of a run with an input that is known, which the page has, too
abbrev pub page_asked : (steps : ℕ) → TraceRows → Files → (given : List ℕ) → Asked
page_asked steps which files given =
    record { steps = steps; which = which; files = files; given = given; finding = None }

abbrev pub ShowsWhole : (steps : ℕ) → TraceRows → (input : List ℕ) → (out line : Room) → (status : ℕ) → Whole → Type 0
ShowsWhole steps which input out line status it = RunsOver input out line
    (λ ends. Shows (Source it.edition) it.text (page_asked steps which it.files input) ends status)
