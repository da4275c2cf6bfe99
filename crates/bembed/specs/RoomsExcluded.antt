-- Promise: what no call tells of its rooms, and does to them.
use Rattle.std.specs.Prelude.{◌≡◌, ℕ, ◌<◌, ◌≤◌, List, get_or, length}
use Rattle.bword.specs.ByteEnds.{Refuses}
use Rattle.bword.specs.declared.edition.Edition.{Edition}
use Rattle.bword.specs.declared.ends.EndFault.TheVariants as fault
use Rattle.blang.specs.declared.status.TheConstants.{DEVICE}
use Rattle.bcount.specs.declared.table.CountStyle.{CountStyle}
use Rattle.bsources.specs.FileLines.{NamedText}
use Rattle.btools.specs.PlaceLines.{CodeText}
use Rattle.bhost.specs.declared.host.Host.{Host}
use Rattle.bwatch.specs.declared.trail.TraceRows.{TraceRows}
use Rattle.bembed.specs.Asks.{ChecksIn, FormatsIn, SaysIn}
use Rattle.bembed.specs.Calls.{CompilesIn, GoesIn, InEdition, LocatesIn, MigratesIn, RunsIn, edition_of}
use Rattle.bembed.specs.Looks.{CountsWhole, ListsWhole, MapsWhole, ShowsWhole, TracesWhole}
use Rattle.bembed.specs.Rooms.{Filled, Overflow, Room, fresh, stream_of}
use Rattle.bembed.specs.Sessions.{LoadsText, LoadsWhole}
use Rattle.bembed.specs.Wholes.{Whole}
use Rattle.bembed.specs.WithFiles.{AskedWith, ChecksWhole, CompilesWhole, GoesWhole}

-- each byte after those that were written is as it was
abbrev pub KeepsRest : Room → Type 0
KeepsRest room = (place : ℕ) → room.count ≤ place → get_or room.after place 0 ≡ get_or room.before place 0

abbrev pub BothKeepRest : (out line : Room) → Type 0
BothKeepRest out line = KeepsRest out × KeepsRest line

-- what is done over two rooms, with this status, keeps the rest of both
abbrev pub KeepsAll : (Room → Room → ℕ → Type 0) → Type 0
KeepsAll Does = (out line : Room) (status : ℕ) → Does out line status → BothKeepRest out line

-- the same of what is done in the edition of a number, also where there is none
abbrev pub KeepsInEditions : (Room → Room → ℕ → Edition → Type 0) → Type 0
KeepsInEditions Does = (number : ℕ)
    → KeepsAll (λ out line status. InEdition (edition_of number) out line status (Does out line status))

-- the same of what is done with a source and the files that follow it
abbrev pub KeepsWith : (Room → Room → ℕ → Whole → Type 0) → Type 0
KeepsWith Does = (number : ℕ) (source : List ℕ) (files : List NamedText)
    → KeepsAll (λ out line status. AskedWith number source files out line status (Does out line status))

pub record Excluded : Type 0 where
  -- a text for which there is room is refused: by the stream over a room, and by a call
  pub refused : (text : List ℕ) (room : Room) (over : Overflow) → Filled room over
      → Refuses fresh text fault.Device (stream_of room over) → length room.before < length text
  pub said : (text : List ℕ) (out line : Room) → SaysIn text out line DEVICE → length out.before < length text
  -- a byte that wasn't written is another one than before: by the stream over a room, and by each call
  pub changed : (room : Room) (over : Overflow) → Filled room over → KeepsRest room
  pub compiles : (source : List ℕ) → KeepsInEditions (CompilesIn source)
  pub goes : (steps : ℕ) (source input : List ℕ) → KeepsInEditions (GoesIn steps source input)
  pub runs : (steps : ℕ) (code input : List ℕ) → KeepsAll (RunsIn steps code input)
  pub locates : (steps : ℕ) (code input : List ℕ) → KeepsAll (LocatesIn steps code input)
  pub migrates : (code : List ℕ) → KeepsAll (MigratesIn code)
  pub checks : (source : List ℕ) → KeepsInEditions (ChecksIn source)
  pub formats : (source : List ℕ) → KeepsInEditions (FormatsIn source)
  pub says : (text : List ℕ) → KeepsAll (SaysIn text)
  pub compiles_with : KeepsWith CompilesWhole
  pub goes_with : (steps : ℕ) (input : List ℕ) → KeepsWith (GoesWhole steps input)
  pub checks_with : KeepsWith ChecksWhole
  pub lists : KeepsWith ListsWhole
  pub maps : KeepsWith MapsWhole
  pub traces : (steps : ℕ) (which : TraceRows) (input : List ℕ) → KeepsWith (TracesWhole steps which input)
  pub counts : (steps : ℕ) (style : CountStyle) (input : List ℕ) → KeepsWith (CountsWhole steps style input)
  pub shows : (steps : ℕ) (which : TraceRows) (input : List ℕ) → KeepsWith (ShowsWhole steps which input)
  pub loads_with : (h : Host) → KeepsWith (LoadsWhole h)
  pub loads_text : (text : CodeText) (h : Host) → KeepsAll (LoadsText text h)
