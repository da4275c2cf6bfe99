-- Promise: what the calls that load a program do.
use Rattle.std.specs.Prelude.{◌≡◌, ℕ, List, [], ◌∷◌, Option, None, Some}
use Rattle.bword.specs.declared.edition.Edition.{Edition}
use Rattle.blang.specs.Compiles.{line_of}
use Rattle.blang.specs.declared.status.TheConstants.{WRONG_COMMAND}
use Rattle.blang.specs.declared.token.Diagnostic.{Diagnostic}
use Rattle.btools.specs.FaultPlaces.{fault_lines}
use Rattle.btools.specs.Origins.{Code, Origin, Source}
use Rattle.btools.specs.PlaceLines.{CodeText}
use Rattle.bhost.specs.Statuses.{Loads, LoadsTelling, LineTold}
use Rattle.bhost.specs.declared.calls.TheConstants.{UNREADY}
use Rattle.bhost.specs.declared.host.Host.{Host}
use Rattle.bembed.specs.Rooms.{Filled, Overflow, Room, Untouched, fresh, stream_of}
use Rattle.bembed.specs.Wholes.{Whole}

-- there is neither a program nor a run
abbrev pub IsEmpty : Host → Type 0
IsEmpty h = (h.read ≡ None) × (h.run ≡ None)

-- A session isn't as the call wants it, and nothing was done.
abbrev pub IsUnready : (old new : Host) → (status : ℕ) → Type 0
IsUnready old new status = (new ≡ old) × (status ≡ UNREADY)

-- the program of a source in the edition of a number, or of none
abbrev pub LoadsSource : Option Edition → (source : List ℕ) → Host → (status : ℕ) → Type 0
LoadsSource (Some edition) source h status = Loads (Source edition) source h status
LoadsSource None source h status = IsEmpty h × (status ≡ WRONG_COMMAND)

-- the program of a code text, with its own lines
abbrev pub LoadsCode : (code : List ℕ) → Host → (status : ℕ) → Type 0
LoadsCode code h status = Loads (Code (record { code = code; lines = None; source = None; names = None })) [] h status

-- why there is no program is told into a room
abbrev pub telling_in : (Diagnostic → List ℕ) → Room → Overflow → (status : ℕ) → LineTold
telling_in lines line over status =
    record { lines = lines; before = fresh; after = stream_of line over; status = status }

-- A program is in memory now; or none, and why was told in the room, with these lines of a fault.
pub record LoadsInto (origin : Origin) (source : List ℕ) (h : Host) (lines : Diagnostic → List ℕ) (line : Room)
    (status : ℕ) : Type 0 where
  pub line_over : Overflow
  pub line_filled : Filled line line_over
  pub loads : LoadsTelling origin source h (telling_in lines line line_over status)

-- The program of a source with its files is loaded, and there is no output.
pub record LoadsWhole (h : Host) (out line : Room) (status : ℕ) (it : Whole) : Type 0 where
  pub no_output : Untouched out
  pub loads : LoadsInto (Source it.edition) it.text h (fault_lines it.files) line status

-- That of a code text is loaded, with what its author gives beside it.
pub record LoadsText (text : CodeText) (h : Host) (out line : Room) (status : ℕ) : Type 0 where
  pub no_output : Untouched out
  pub loads : LoadsInto (Code text) [] h line_of line status

-- a file, unless it is empty
abbrev pub given_in : List ℕ → Option (List ℕ)
given_in [] = None
given_in file = Some file

abbrev pub text_given : (code lines names : List ℕ) → CodeText
text_given code lines names = record { code = code; lines = given_in lines; source = None; names = given_in names }
