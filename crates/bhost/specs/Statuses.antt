-- Promise: what each call of a session tells.
use Rattle.std.specs.Prelude.{◌≡◌, ◌≢◌, ◌⊎◌, ℕ, Bool, true, false, [], nat_lt, if◌then◌else◌, length, List, Option, None, MatchOption}
use Rattle.blang.specs.declared.run.Outcome.TheVariants as outcome
use Rattle.blang.specs.declared.run.Trap.{Trap}
use Rattle.blang.specs.declared.run.Trap.TheVariants as trap
use Rattle.blang.specs.declared.run.Outcome.{Outcome}
use Rattle.blang.specs.declared.status.TheConstants.{DEVICE, DONE, FAULT, LIMIT, MEMORY, REFUSED, TRAP, WRONG_COMMAND}
use Rattle.bsession.specs.declared.session.Held.{Held}
use Rattle.bsession.specs.declared.session.Held.TheVariants as held
use Rattle.bsession.specs.declared.session.SliceEnd.{SliceEnd}
use Rattle.bsession.specs.declared.session.SliceEnd.TheVariants as end
use Rattle.bsession.specs.declared.session.StopEnd.{StopEnd}
use Rattle.bsession.specs.declared.session.StopEnd.TheVariants as stop_end
use Rattle.bword.specs.ByteEnds.{Outgoing}
use Rattle.blang.specs.declared.token.Diagnostic.{Diagnostic}
use Rattle.btools.specs.Origins.{ColumnsOf, HasNoProgramOf, IsProgramOf, LinesOf, NamesOf, NoProgramOf, Origin}
use Rattle.btools.specs.declared.program.ProgramFault.{ProgramFault}
use Rattle.btools.specs.declared.program.ProgramFault.TheVariants as fault
use Rattle.bhost.specs.Deeds.{ActsIfReady, stop_set}
use Rattle.bsession.specs.Stops.{StopSet}
use Rattle.bhost.specs.Hosts.{LoadedValue}
use Rattle.bhost.specs.Runs.{RunsView}
use Rattle.bhost.specs.Symbols.{blank}
use Rattle.bhost.specs.declared.calls.TheConstants.{HAS_OUTPUT, STOPPED, TOO_LARGE, UNREADY}
use Rattle.bhost.specs.declared.desk.Answer.{Answer}
use Rattle.bhost.specs.declared.desk.Answer.TheVariants as answer
use Rattle.bhost.specs.declared.desk.Deed.{Deed}
use Rattle.bhost.specs.declared.desk.Deed.TheVariants as deed
use Rattle.bhost.specs.declared.desk.Frame.{Frame}
use Rattle.bhost.specs.declared.desk.Query.TheVariants as query
use Rattle.bhost.specs.declared.desk.StopList.{StopList}
use Rattle.bhost.specs.declared.desk.Symbol.{Symbol}
use Rattle.bhost.specs.declared.host.Host.{Host}

-- the status of a program that could not be read
abbrev pub fault_status : ProgramFault → ℕ
fault_status (fault.Faulty d) = FAULT
fault_status (fault.Unread line) = REFUSED
fault_status (fault.Unlined line wanted) = WRONG_COMMAND
fault_status (fault.Unnamed line wanted) = WRONG_COMMAND
fault_status (fault.Unloaded f) = REFUSED
fault_status fault.Memory = MEMORY

-- A program was read from there, with its lines, columns and names.
pub record HoldsProgramOf (origin : Origin) (source : List ℕ) (loaded : LoadedValue) : Type 0 where
  pub program : IsProgramOf origin source loaded.program
  pub lines : LinesOf origin source loaded.program.names.lines.items
  pub columns : ColumnsOf origin loaded.program.columns.items
  pub names : NamesOf origin source loaded.program.names.frames.items

-- A program is in memory now, or none, and the status tells why.
abbrev pub Loads : Origin → (source : List ℕ) → Host → (status : ℕ) → Type 0
Loads origin source h status = (h.run ≡ None) × MatchOption h.read
    ((why : ProgramFault) × HasNoProgramOf origin source why × (status ≡ fault_status why))
    (λ loaded. HoldsProgramOf origin source loaded × (status ≡ DONE))

-- where it is told why there is no program: the lines of a fault, the stream before and after, and the status
pub record LineTold : Type 0 where
  pub lines : Diagnostic → List ℕ
  pub before : Outgoing
  pub after : Outgoing
  pub status : ℕ

-- A program is in memory now, and nothing is told; or none, and it is told why.
abbrev pub LoadsTelling : Origin → (source : List ℕ) → Host → LineTold → Type 0
LoadsTelling origin source h it = (h.run ≡ None) × MatchOption h.read
    (NoProgramOf origin source it.lines it.before it.after it.status)
    (λ loaded. HoldsProgramOf origin source loaded × (it.after ≡ it.before) × (it.status ≡ DONE))

-- the number of a trap
abbrev pub trap_number : Trap → ℕ
trap_number trap.ZeroDivisor = 1
trap_number trap.NotAFunction = 2
trap_number trap.NotALabel = 3
trap_number trap.NoRoom = 4
trap_number trap.TooDeep = 5
trap_number trap.BadBase = 6
trap_number trap.Stuck = 7

-- the number of what is too large
abbrev pub held_number : Held → ℕ
held_number held.Output = 0
held_number held.Operands = 1
held_number held.Pages = 2

-- the status of a slice, and beside it that of the program which has halted, or the number of a trap or of what is too
-- large
abbrev pub end_status : SliceEnd → ℕ
end_status (end.Halted status) = DONE
end_status (end.Trapped kind) = TRAP
end_status end.Limit = LIMIT
end_status end.WantsInput = DEVICE
end_status (end.Holds held.Output) = HAS_OUTPUT
end_status (end.Holds other) = TOO_LARGE
end_status end.Memory = MEMORY

abbrev pub end_value : SliceEnd → ℕ
end_value (end.Halted status) = status
end_value (end.Trapped kind) = trap_number kind
end_value (end.Holds what) = held_number what
end_value other = 0

-- the same of a slice with stops
abbrev pub walk_status : StopEnd → ℕ
walk_status stop_end.Stopped = STOPPED
walk_status (stop_end.Ended why) = end_status why

abbrev pub walk_value : StopEnd → ℕ
walk_value stop_end.Stopped = 0
walk_value (stop_end.Ended why) = end_value why

-- the status where a run hasn't begun
abbrev pub begin_status : Outcome → ℕ
begin_status outcome.Memory = MEMORY
begin_status other = TRAP

abbrev pub answer_status : Answer → ℕ
answer_status answer.Done = DONE
answer_status (answer.Ended why) = end_status why
answer_status (answer.Walked why) = walk_status why
answer_status (answer.Unbegun why) = begin_status why
answer_status answer.Closed = WRONG_COMMAND
answer_status answer.Missing = REFUSED
answer_status answer.Unready = UNREADY
answer_status answer.Refused = MEMORY
answer_status (answer.Stands there) = DONE
answer_status (answer.Calls frame) = DONE
answer_status (answer.Word word) = DONE
answer_status (answer.Tells symbol) = DONE

-- the status where no bytes were fed for want of memory
abbrev pub unfed_status : Answer → ℕ
unfed_status answer.Done = MEMORY
unfed_status told = answer_status told

abbrev pub answer_value : Answer → ℕ
answer_value (answer.Ended why) = end_value why
answer_value (answer.Walked why) = walk_value why
answer_value other = 0

abbrev pub answer_word : Answer → ℕ
answer_word (answer.Word word) = word
answer_word other = 0

abbrev pub answer_function : Answer → ℕ
answer_function (answer.Stands there) = there.strings
answer_function other = 0

abbrev pub answer_place : Answer → ℕ
answer_place (answer.Stands there) = there.place
answer_place other = 0

abbrev pub answer_callers : Answer → ℕ
answer_callers (answer.Stands there) = there.callers
answer_callers other = 0

abbrev pub answer_steps : Answer → ℕ
answer_steps (answer.Stands there) = there.steps
answer_steps other = 0

abbrev pub answer_line : Answer → ℕ
answer_line (answer.Stands there) = there.line
answer_line other = 0

abbrev pub answer_column : Answer → ℕ
answer_column (answer.Stands there) = there.column
answer_column other = 0

-- the call that is told, if one is
abbrev pub answer_frame : Answer → Frame
answer_frame (answer.Calls frame) = frame
answer_frame other = record { strings = 0; place = 0; start = 0; parameters = 0; line = 0; column = 0 }

-- what is told of a name, or of nothing
abbrev pub answer_symbol : Answer → Symbol
answer_symbol (answer.Tells symbol) = symbol
answer_symbol other = blank

-- the status where a name is told in a room of this size
abbrev pub name_status : (size : ℕ) → (name : List ℕ) → Answer → ℕ
name_status size name told = if nat_lt size (length name) then DEVICE else answer_status told

-- A deed with these bytes is done, or the session isn't ready for it, and the status tells its answer. `P` holds of the
-- bytes after it, and of the answer.
abbrev pub Answers : Deed → (bytes : List ℕ) → Option LoadedValue → (old new : Option RunsView) → (status : ℕ)
    → (List ℕ → Answer → Type 0) → Type 0
Answers deed bytes program old new status P =
    (after : List ℕ) × (told : Answer) × ActsIfReady deed bytes program old new after told
    × (status ≡ answer_status told) × P after told

-- there is a place or a word among them
abbrev pub HasSome : StopSet → Type 0
HasSome stops = ((stops.places ≢ []) ⊎ (stops.near ≢ [])) ⊎ (stops.words ≢ [])

-- A slice with such stops is made, and the status tells its end, with a value beside it; or nothing is done, since memory
-- is refused for the stops.
abbrev pub GoesTo : StopSet → (steps : ℕ) → (old new : Host) → (status value : ℕ) → Type 0
GoesTo stops steps old new status value =
    ((new ≡ old) × HasSome stops × (status ≡ MEMORY))
    ⊎ ((list : StopList) × (stop_set list ≡ stops)
    × Answers (deed.ContinueTo list steps) [] old.read old.run new.run status (λ _ told. value ≡ answer_value told))

-- What a text stands for is told, if it is a name; and else that there is none.
abbrev pub FindsName : (is_name : Bool) → (text : List ℕ) → (old new : Host) → (status : ℕ) → Symbol → Type 0
FindsName true text old new status told =
    Answers (deed.Tell (query.Named text)) [] old.read old.run new.run status
    (λ _ answered. told ≡ answer_symbol answered)
FindsName false text old new status told = (new ≡ old) × (status ≡ REFUSED) × (told ≡ blank)
