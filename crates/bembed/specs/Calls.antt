-- Promise: what the calls of the library do.
use Rattle.std.specs.Prelude.{◌≡◌, ℕ, ◌==◌, if◌then◌else◌, List, false, Option, Some, None}
use Rattle.bword.specs.declared.edition.Edition.{Edition}
use Rattle.bword.specs.declared.edition.Edition.TheVariants as editions
use Rattle.bword.specs.ByteEnds.{Incoming, Outgoing, Unread, incoming_of}
use Rattle.blang.specs.Compiles.{Compiles, CompileHeadline, Run}
use Rattle.blang.specs.Headline.{GoesOff, Headline}
use Rattle.blang.specs.Reports.{RunEnds, run_ends}
use Rattle.blang.specs.declared.status.TheConstants.{WRONG_COMMAND}
use Rattle.brun.specs.Migrates.{Migrates, rewriting}
use Rattle.brun.specs.Runs.{RunsText}
use Rattle.bwhere.specs.Wheres.{LocatesCode}
use Rattle.bembed.specs.Rooms.{Overflow, Room, Filled, Untouched, fresh, stream_of}

-- the editions by their numbers
abbrev pub edition_of : ℕ → Option Edition
edition_of n = if n == 1 then Some editions.One else (if n == 2 then Some editions.Two else None)

-- A call does this in the edition of that number. Where there is none, it writes nothing and answers so.
abbrev pub InEdition : Option Edition → (out line : Room) → (status : ℕ) → (Edition → Type 0) → Type 0
InEdition (Some edition) out line status P = P edition
InEdition None out line status P = Untouched out × Untouched line × (status ≡ WRONG_COMMAND)

-- a stream of all of these bytes
abbrev pub all_of : List ℕ → Incoming
all_of bytes = incoming_of (record { left = bytes; is_over = false })

-- a run of the compiler, in order
abbrev pub run_over : Edition → (source source_after : Incoming) → (code code_after line line_after : Outgoing)
    → (status : ℕ) → Run
run_over edition source source_after code code_after line line_after status = record {
  edition = edition;
  source = source;
  source_after = source_after;
  code = code;
  code_after = code_after;
  line = line;
  line_after = line_after;
  status = status;
}

-- the run of the compiler over a source in memory and two rooms
abbrev pub compile_run : Edition → (source : List ℕ) → Unread → (out line : Room) → (out_over line_over : Overflow)
    → (status : ℕ) → Run
compile_run edition source after out line out_over line_over status =
    run_over edition (all_of source) (incoming_of after) fresh (stream_of out out_over)
    fresh (stream_of line line_over) status

-- A source in memory is compiled into two rooms.
pub record CompilesIn (source : List ℕ) (out line : Room) (status : ℕ) (edition : Edition) : Type 0 where
  pub source_after : Unread
  pub out_over : Overflow
  pub line_over : Overflow
  pub out_filled : Filled out out_over
  pub line_filled : Filled line line_over
  pub compiles : Compiles (compile_run edition source source_after out line out_over line_over status)
  pub headline : CompileHeadline (compile_run edition source source_after out line out_over line_over status)

-- the ends of a run over streams in memory
abbrev pub ends_of : (input : List ℕ) → Unread → (out line : Room) → (out_over line_over : Overflow) → RunEnds
ends_of input after out line out_over line_over =
    run_ends (all_of input) (incoming_of after) fresh (stream_of out out_over) fresh (stream_of line line_over)

-- A source in memory is compiled, and its program is run on an input in memory, into two rooms.
pub record GoesIn (steps : ℕ) (source input : List ℕ) (out line : Room) (status : ℕ) (edition : Edition) : Type 0 where
  pub source_after : Unread
  pub input_after : Unread
  pub out_over : Overflow
  pub line_over : Overflow
  pub out_filled : Filled out out_over
  pub line_filled : Filled line line_over
  pub goes : GoesOff edition steps (all_of source) (incoming_of source_after)
      (ends_of input input_after out line out_over line_over) status
  pub headline : Headline edition steps (all_of source) (incoming_of source_after)
      (ends_of input input_after out line out_over line_over) status

-- A code text is run on an input in memory, into two rooms.
pub record RunsIn (steps : ℕ) (code input : List ℕ) (out line : Room) (status : ℕ) : Type 0 where
  pub input_after : Unread
  pub out_over : Overflow
  pub line_over : Overflow
  pub out_filled : Filled out out_over
  pub line_filled : Filled line line_over
  pub runs : RunsText steps code (ends_of input input_after out line out_over line_over) status

-- The same, and where it went wrong is told.
pub record LocatesIn (steps : ℕ) (code input : List ℕ) (out line : Room) (status : ℕ) : Type 0 where
  pub input_after : Unread
  pub out_over : Overflow
  pub line_over : Overflow
  pub out_filled : Filled out out_over
  pub line_filled : Filled line line_over
  pub locates : LocatesCode steps code (ends_of input input_after out line out_over line_over) status

-- A code text in memory is migrated into two rooms.
pub record MigratesIn (code : List ℕ) (out line : Room) (status : ℕ) : Type 0 where
  pub code_after : Unread
  pub out_over : Overflow
  pub line_over : Overflow
  pub out_filled : Filled out out_over
  pub line_filled : Filled line line_over
  pub migrates : Migrates (rewriting (all_of code) (incoming_of code_after) fresh (stream_of out out_over))
      fresh (stream_of line line_over) status
