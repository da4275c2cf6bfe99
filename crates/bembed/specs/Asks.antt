-- Promise: what the calls of the library tell of a source, and of the library.
use Rattle.std.specs.Prelude.{ℕ, List, false}
use Rattle.bword.specs.ByteEnds.{Outgoing}
use Rattle.bword.specs.declared.edition.Edition.{Edition}
use Rattle.blang.specs.Reports.{Reported}
use Rattle.blang.specs.declared.status.TheConstants.{DONE}
use Rattle.bcheck.specs.Checks.{Check, Checks}
use Rattle.bcheck.specs.declared.form.FindingForm.TheVariants as form
use Rattle.bformat.specs.Formats.{Format, Formats}
use Rattle.bsources.specs.Files.{Files}
use Rattle.bembed.specs.Rooms.{Overflow, Room, Filled, Untouched, fresh, stream_of}
use Rattle.bembed.specs.Wholes.{alone}

-- a check for an editor, of a source in these files, and its output, before and after
abbrev pub check_of : Edition → Files → (source : List ℕ) → (out out_after : Outgoing) → (status : ℕ) → Check
check_of edition files source out out_after status = record {
  edition = edition;
  form = form.Json;
  files = files;
  source = source;
  out = out;
  out_after = out_after;
  status = status;
}

-- A source in memory is checked into a room, by itself, and there is no line.
pub record ChecksIn (source : List ℕ) (out line : Room) (status : ℕ) (edition : Edition) : Type 0 where
  pub out_over : Overflow
  pub out_filled : Filled out out_over
  pub no_line : Untouched line
  pub checks : Checks (check_of edition (alone source) source fresh (stream_of out out_over) status)

-- a layout that is written, and its two streams, before and after
abbrev pub format_of : Edition → (source : List ℕ) → (out out_after line line_after : Outgoing) → (status : ℕ) → Format
format_of edition source out out_after line line_after status = record {
  edition = edition;
  source = source;
  is_check = false;
  out = out;
  out_after = out_after;
  line = line;
  line_after = line_after;
  status = status;
}

-- A source in memory is laid out into two rooms.
pub record FormatsIn (source : List ℕ) (out line : Room) (status : ℕ) (edition : Edition) : Type 0 where
  pub out_over : Overflow
  pub line_over : Overflow
  pub out_filled : Filled out out_over
  pub line_filled : Filled line line_over
  pub formats : Formats (format_of edition source fresh (stream_of out out_over) fresh
      (stream_of line line_over) status)

-- A text is written into a room, and there is no line.
pub record SaysIn (text : List ℕ) (out line : Room) (status : ℕ) : Type 0 where
  pub out_over : Overflow
  pub out_filled : Filled out out_over
  pub no_line : Untouched line
  pub says : Reported text DONE fresh (stream_of out out_over) status
