-- Promise: what is done with a session that is held with its program.
use Rattle.std.specs.Prelude.{◌≡◌, ◌≢◌, ◌⊎◌, ⊤, ℕ, ◌-◌, zero, suc, List, [], ◌++◌, drop, take, false, true, IsSome}
use Rattle.std.specs.Prelude.{Bool, Option, is_none, not, slice_get}
use Rattle.std.specs.Prelude.{Some, None}
use Rattle.bmach.specs.Stepping.{BeginsNot, ShowsFirst}
use Rattle.bsession.specs.Sessions.{AsksForRoom, BeginsSession, GoesOnWithin, IsThere, KeepsLimits, SessionContinues, SessionView}
use Rattle.bsession.specs.Sessions.{SessionState, call_in, caller_in, callers_in, stored_in, word_in}
use Rattle.bsession.specs.Stops.{StopSet, WalksTo}
use Rattle.bsession.specs.declared.session.SliceEnd.{SliceEnd}
use Rattle.bsession.specs.declared.session.StopEnd.{StopEnd}
use Rattle.bmach.specs.declared.machine.Active.{Active}
use Rattle.blang.specs.Machine.{Image}
use Rattle.blang.specs.declared.run.Outcome.{Outcome}
use Rattle.blang.specs.declared.run.Outcome.TheVariants as outcome
use Rattle.blang.specs.declared.run.Trap.TheVariants as trap
use Rattle.btools.specs.Functions.{Placed, function_with, functions_of, name_in}
use Rattle.btools.specs.ProgramLines.{line_at, lined_functions}
use Rattle.bhost.specs.Hosts.{LoadedValue}
use Rattle.bhost.specs.Runs.{IsCopied, RunsView, copy_told, swapped, without}
use Rattle.bhost.specs.Symbols.{symbol_told}
use Rattle.bhost.specs.declared.desk.Answer.{Answer}
use Rattle.bhost.specs.declared.desk.Answer.TheVariants as answer
use Rattle.bhost.specs.declared.desk.Deed.{Deed}
use Rattle.bhost.specs.declared.desk.Deed.TheVariants as deed
use Rattle.bhost.specs.declared.desk.Frame.{Frame}
use Rattle.bhost.specs.declared.desk.StopList.{StopList}

-- A run begins where none was begun. Names and what they stand for are told in any case, and all else is done with a
-- run.
abbrev pub Allows : Deed → Option RunsView → Type 0
Allows deed.Begin run = run ≡ None
Allows (deed.Name strings) run = ⊤
Allows (deed.Tell query) run = ⊤
Allows other run = IsSome run

-- whether it is done where a run lacks, or where there is one
abbrev pub allows : Deed → (lacks_run : Bool) → Bool
allows deed.Begin lacks = lacks
allows (deed.Name strings) lacks = true
allows (deed.Tell query) lacks = true
allows other lacks = not lacks

-- there is a program, and such a run
abbrev pub is_ready : Deed → Option LoadedValue → Option RunsView → Bool
is_ready it None run = false
is_ready it (Some loaded) run = allows it (is_none run)

-- memory was refused, or the frame of the main function has no room
abbrev pub LacksRoom : Outcome → Type 0
LacksRoom why = (why ≡ outcome.Memory) ⊎ (why ≡ outcome.Trap trap.NoRoom)

-- A run has begun, without copies; or it hasn't, since memory was refused where it has a first step, or its first frame
-- has no room.
abbrev pub Begins : Image → (new : Option RunsView) → Answer → Type 0
Begins image (Some h) told = BeginsSession image h.run × (h.kept ≡ []) × (told ≡ answer.Done)
Begins image None told =
    ((told ≡ answer.Refused) × ShowsFirst image outcome.Limit)
    ⊎ ((why : Outcome) × (told ≡ answer.Unbegun why) × BeginsNot image why × LacksRoom why)

-- The bytes come after those that were fed, or none where memory is refused for some. An input that was closed takes
-- none.
abbrev pub IsFed : (old new : SessionView) → (bytes : List ℕ) → Answer → Type 0
IsFed old new bytes answer.Done = (old.is_closed ≡ false) × (new ≡ record old { unread = old.unread ++ bytes })
IsFed old new bytes answer.Closed = (old.is_closed ≡ true) × (new ≡ old)
IsFed old new bytes answer.Refused = (old.is_closed ≡ false) × (bytes ≢ []) × (new ≡ old)
IsFed old new bytes other = ⊥

-- so many bytes of the output were taken, or none, where memory is refused for some
abbrev pub IsTaken : (old new : SessionView) → (count : ℕ) → (taken : List ℕ) → Answer → Type 0
IsTaken old new count taken answer.Done =
    (taken ≡ take count old.output) × (new ≡ record old { output = drop count old.output })
IsTaken old new count taken answer.Refused = (taken ≡ []) × (take count old.output ≢ []) × (new ≡ old)
IsTaken old new count taken other = ⊥

-- a word is stored, unless memory is refused for it or the session is lost
abbrev pub IsStored : (old new : SessionView) → (address word : ℕ) → Answer → Type 0
IsStored old new address word answer.Done =
    IsThere old.state × (new ≡ record old { state = stored_in old.state address word })
IsStored old new address word answer.Refused = AsksForRoom old.state address word × (new ≡ old)
IsStored old new address word other = ⊥

-- where a run stands, with the line of the next instruction and its column; a lost one stands nowhere
abbrev pub stands_with : (line_of column_of : Active → ℕ) → Option Active → (callers steps : ℕ) → Answer
stands_with line_of column_of (Some call) callers steps = answer.Stands (record {
  strings = call.strings;
  place = call.place;
  callers = callers;
  steps = steps;
  line = line_of call;
  column = column_of call;
})
stands_with line_of column_of None callers steps = answer.Refused

-- what is kept of each instruction for the next one of a call: its line, or its column
abbrev pub kept_at : LoadedValue → List ℕ → Active → ℕ
kept_at loaded kept call = line_at (lined_functions loaded.program.definitions.items kept) call.strings call.place

abbrev pub stands_at : LoadedValue → SessionView → Answer
stands_at loaded h =
    stands_with (kept_at loaded loaded.program.names.lines.items) (kept_at loaded loaded.program.columns.items)
    (call_in h.state) (callers_in h.state) h.steps

-- a call, with the line and the column of one of its instructions
abbrev pub frame_of : LoadedValue → Active → (shown : ℕ) → Frame
frame_of loaded call shown =
    let of_place : List ℕ → ℕ = λ kept. kept_at loaded kept (record call { place = shown }) in
    record {
      strings = call.strings;
      place = call.place;
      start = call.start;
      parameters = call.parameters;
      line = of_place loaded.program.names.lines.items;
      column = of_place loaded.program.columns.items;
    }

-- One below the running call is told with the line of the call that it has made, the instruction before its next one.
abbrev pub caller_told : LoadedValue → Option Active → Answer
caller_told loaded (Some call) = answer.Calls (frame_of loaded call (call.place - 1))
caller_told loaded None = answer.Missing

-- the call of a number: the running one has 0, and a lost session has none
abbrev pub frame_in : LoadedValue → (running : Option Active) → (below : ℕ → Option Active) → (number : ℕ) → Answer
frame_in loaded (Some call) below zero = answer.Calls (frame_of loaded call call.place)
frame_in loaded (Some call) below (suc number) = caller_told loaded (below number)
frame_in loaded None below number = answer.Refused

abbrev pub frame_at : LoadedValue → SessionState → (number : ℕ) → Answer
frame_at loaded state number = frame_in loaded (call_in state) (caller_in state) number

-- before which steps a slice stops
abbrev pub stop_set : StopList → StopSet
stop_set list = record {
  places = list.places.items;
  near = list.near.items;
  callers = list.callers;
  returned = list.returned;
  words = list.words.items;
}

-- the function whose string words begin there
abbrev pub placed_at : LoadedValue → (strings : ℕ) → Option Placed
placed_at loaded strings = function_with (functions_of loaded.program.definitions.items) strings

-- The name of a function is told, or memory is refused for it; or it is told that there is none.
abbrev pub NamesFunction : Option Placed → (name : List ℕ) → Answer → Type 0
NamesFunction found name answer.Done = IsSome found × (name ≡ name_in found)
NamesFunction found name answer.Missing = (found ≡ None) × (name ≡ [])
NamesFunction found name answer.Refused = IsSome found × (name ≡ [])
NamesFunction found name other = ⊥

abbrev pub word_told : Option ℕ → Answer
word_told (Some word) = answer.Word word
word_told None = answer.Refused

-- what a deed that puts no bytes on the desk does between or in two slices of a program that is in memory
abbrev pub DoesTo : Deed → LoadedValue → (old new : SessionView) → (bytes : List ℕ) → Answer → Type 0
DoesTo (deed.Continue steps) loaded old new bytes told =
    (why : SliceEnd) × (told ≡ answer.Ended why) × SessionContinues old.state old new steps why × KeepsLimits new why
    × GoesOnWithin old.state old new
DoesTo (deed.ContinueTo list steps) loaded old new bytes told =
    (why : StopEnd) × (told ≡ answer.Walked why) × WalksTo (stop_set list) old new steps why
DoesTo (deed.Limit limits) loaded old new bytes told = (new ≡ record old { limits = limits }) × (told ≡ answer.Done)
DoesTo deed.Feed loaded old new bytes told = IsFed old new bytes told
DoesTo deed.Close loaded old new bytes told = (new ≡ record old { is_closed = true }) × (told ≡ answer.Done)
DoesTo deed.Look loaded old new bytes told = (new ≡ old) × (told ≡ stands_at loaded old)
DoesTo (deed.Frame number) loaded old new bytes told = (new ≡ old) × (told ≡ frame_at loaded old.state number)
DoesTo (deed.Read address) loaded old new bytes told = (new ≡ old) × (told ≡ word_told (word_in old.state address))
DoesTo (deed.Store address word) loaded old new bytes told = IsStored old new address word told
DoesTo other loaded old new bytes told = new ≡ old

-- the bytes on the desk stay, unless these are taken
abbrev pub Does : Deed → LoadedValue → (old new : SessionView) → (bytes bytes_after : List ℕ) → Answer → Type 0
Does (deed.Take count) loaded old new bytes after told = IsTaken old new count after told
Does it loaded old new bytes after told = (after ≡ bytes) × DoesTo it loaded old new bytes told

-- what a deed does with a run and its copies, which stay unless it is about them
abbrev pub DoesWith : Deed → LoadedValue → (old new : RunsView) → (bytes bytes_after : List ℕ) → Answer → Type 0
DoesWith deed.Copy loaded old new bytes after told = (after ≡ bytes) × IsCopied old new told
DoesWith (deed.Swap number) loaded old new bytes after told =
    (after ≡ bytes) × (new ≡ swapped old number (slice_get old.kept number))
    × (told ≡ copy_told (slice_get old.kept number))
DoesWith (deed.Forget number) loaded old new bytes after told =
    (after ≡ bytes) × (new ≡ without old number (slice_get old.kept number))
    × (told ≡ copy_told (slice_get old.kept number))
DoesWith it loaded old new bytes after told =
    Does it loaded old.run new.run bytes after told × (new.kept ≡ old.kept)

-- the session before and after
abbrev pub DoesBoth : Deed → LoadedValue → (old new : Option RunsView) → (bytes bytes_after : List ℕ) → Answer
    → Type 0
DoesBoth it loaded (Some h) (Some k) bytes after told = DoesWith it loaded h k bytes after told
DoesBoth it loaded other another bytes after told = ⊥

-- What comes of a deed with these bytes: of the program, its session before and after, the bytes after it, and what it
-- tells.
abbrev pub Acts : Deed → (bytes : List ℕ) → Option LoadedValue → (old new : Option RunsView) → (after : List ℕ)
    → Answer → Type 0
Acts deed.Begin bytes (Some loaded) old new after told = (after ≡ bytes) × Begins loaded.program.image new told
Acts deed.End bytes (Some loaded) old new after told = (after ≡ bytes) × (new ≡ None) × (told ≡ answer.Done)
Acts (deed.Name strings) bytes (Some loaded) old new after told =
    (new ≡ old) × NamesFunction (placed_at loaded strings) after told
Acts (deed.Tell query) bytes (Some loaded) old new after told =
    (after ≡ bytes) × (new ≡ old) × (told ≡ symbol_told loaded query)
Acts other bytes (Some loaded) old new after told = DoesBoth other loaded old new bytes after told
Acts other bytes None old new after told = ⊥

-- It is done where the session is ready, and else nothing is.
abbrev pub ActsWhen : (ready : Bool) → Deed → (bytes : List ℕ) → Option LoadedValue → (old new : Option RunsView)
    → (after : List ℕ) → Answer → Type 0
ActsWhen true it bytes program old new after told = Acts it bytes program old new after told
ActsWhen false it bytes program old new after told = (new ≡ old) × (after ≡ bytes) × (told ≡ answer.Unready)

abbrev pub ActsIfReady : Deed → (bytes : List ℕ) → Option LoadedValue → (old new : Option RunsView) → (after : List ℕ)
    → Answer → Type 0
ActsIfReady it bytes program old new after told = ActsWhen (is_ready it program old) it bytes program old new after told
