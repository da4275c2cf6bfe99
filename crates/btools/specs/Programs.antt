-- Promise: a source that is compiled and loaded, or why it can't be.
use Rattle.std.specs.Prelude.{◌≡◌, ℕ, List, [], codes, false, map, Option, Some, None, MatchOption}
use Rattle.std.specs.Prelude.{Result, Ok, Err, ◌⊎◌, unwrap_or}
use Rattle.bword.specs.declared.edition.Edition.{Edition}
use Rattle.bword.specs.ByteEnds.{Unread, Outgoing, Kept, incoming_of, outgoing_of}
use Rattle.blang.specs.declared.code.Definition.{Definition}
use Rattle.blang.specs.declared.token.Diagnostic.{Diagnostic}
use Rattle.blang.specs.Code.{code_of}
use Rattle.blang.specs.Compiles.{Compilation, Compiles, CompilesTo}
use Rattle.blang.specs.Cut.{tokens_from}
use Rattle.blang.specs.declared.status.TheConstants.{DONE, FAULT, LIMIT, MEMORY, REFUSED, TRAP, WRONG_COMMAND}
use Rattle.blang.specs.Layout.{address_in, load_fault}
use Rattle.blang.specs.Machine.{Image, States}
use Rattle.blang.specs.Machine as runs
use Rattle.blang.specs.Reports.{Finishes, Reported, report_text}
use Rattle.bmach.specs.Resolved.{IsLoadedFrom}
use Rattle.bmach.specs.Stepping.{Paused, machine_at}
use Rattle.blang.specs.declared.run.LoadFault.{LoadFault}
use Rattle.blang.specs.declared.run.Outcome.{Outcome}
use Rattle.blang.specs.declared.run.LoadFault.TheVariants as fault
use Rattle.blang.specs.declared.run.Outcome.TheVariants as outcome
use Rattle.blang.specs.declared.run.Report.TheVariants as report
use Rattle.btools.specs.NamedFrames.{unnamed_line}
use Rattle.btools.specs.PlaceLines.{unlined_line}
use Rattle.btools.specs.declared.program.Program.{Program}
use Rattle.btools.specs.declared.program.ProgramFault.{ProgramFault}
use Rattle.btools.specs.declared.program.ProgramFault.TheVariants as why

-- what is written is kept from the start
abbrev pub nothing_written : Outgoing
nothing_written = outgoing_of (record { bytes = []; refusals = 0 })

-- the two streams of a command that tells of a source, before and after
pub record ToldEnds : Type 0 where
  pub out : Outgoing
  pub out_after : Outgoing
  pub line : Outgoing
  pub line_after : Outgoing

-- the same, in order
abbrev pub told_ends : (out out_after line line_after : Outgoing) → ToldEnds
told_ends out out_after line line_after =
    record { out = out; out_after = out_after; line = line; line_after = line_after }

-- The source was compiled between these ends of lines, to this code and with this status.
pub record WasCompiled (edition : Edition) (source : List ℕ) (line line_after : Outgoing) (code : List ℕ) (status : ℕ)
    : Type 0 where
  pub following : Unread
  pub kept : Kept
  pub code_is : kept.bytes ≡ code
  pub compiles : Compiles (record {
    edition = edition;
    source = incoming_of (record { left = source; is_over = false });
    source_after = incoming_of following;
    code = nothing_written;
    code_after = outgoing_of kept;
    line = line;
    line_after = line_after;
    status = status;
  })

-- the source has no fault, and this is the code of its definitions
abbrev pub IsCodeOf : Edition → List ℕ → List Definition → Type 0
IsCodeOf edition source ds =
    (r : Compilation) (g : CompilesTo [] (tokens_from edition 1 source) r)
    → (r.stop ≡ None) × (map code_of g.definitions ≡ ds)

-- the source has this fault
abbrev pub HasFault : Edition → List ℕ → Diagnostic → Type 0
HasFault edition source d =
    (r : Compilation) → CompilesTo [] (tokens_from edition 1 source) r → r.stop ≡ Some d

-- The source comes to the code of these definitions, which load to this image.
pub record HasProgram (edition : Edition) (source : List ℕ) (ds : List Definition) (image : Image) : Type 0 where
  pub code : IsCodeOf edition source ds
  pub loads : load_fault ds ≡ None
  pub loaded : IsLoadedFrom ds image

abbrev pub IsThisProgram : Edition → (source : List ℕ) → Program → Type 0
IsThisProgram edition source p = HasProgram edition source p.definitions.items p.image

-- where a name lies
abbrev pub image_address : Image → List ℕ → ℕ
image_address image name = unwrap_or (address_in image.addresses name) 0

-- why a source has no program: its fault, or why its code doesn't load, or that memory was refused
abbrev pub HasNoProgram : Edition → (source : List ℕ) → ProgramFault → Type 0
HasNoProgram edition source (why.Faulty d) = HasFault edition source d
HasNoProgram edition source (why.Unloaded f) =
    (ds : List Definition) × IsCodeOf edition source ds × (load_fault ds ≡ Some f)
HasNoProgram edition source why.Memory = Unit {0}
HasNoProgram edition source other = ⊥

-- the line of a reason why definitions don't load
abbrev pub load_line : LoadFault → Option (List ℕ)
load_line (fault.Duplicate name) = Some (codes "load 1\n")
load_line fault.TooLarge = Some (codes "load 2\n")
load_line (fault.Undefined name) = Some (codes "load 3\n")
load_line fault.NoMain = Some (codes "load 4\n")
load_line fault.Memory = None

-- This is told of it, and `lines` of a fault of the source; or nothing where memory was refused.
abbrev pub TellsFault : (lines : Diagnostic → List ℕ) → ProgramFault → Outgoing → Outgoing → (status : ℕ) → Type 0
TellsFault lines (why.Faulty d) line line_after status = Reported (lines d) FAULT line line_after status
TellsFault lines (why.Unloaded f) line line_after status =
    MatchOption (load_line f) ((line_after ≡ line) × (status ≡ MEMORY))
    (λ text. Reported text REFUSED line line_after status)
TellsFault lines (why.Unread n) line line_after status =
    Reported (report_text (report.Code n)) REFUSED line line_after status
TellsFault lines (why.Unlined n w) line line_after status =
    Reported (unlined_line n w) WRONG_COMMAND line line_after status
TellsFault lines (why.Unnamed n w) line line_after status =
    Reported (unnamed_line n w) WRONG_COMMAND line line_after status
TellsFault lines why.Memory line line_after status = (line_after ≡ line) × (status ≡ MEMORY)

-- there is no program, and why was told
abbrev pub NoProgram : Edition → (source : List ℕ) → (lines : Diagnostic → List ℕ) → Outgoing → Outgoing → ℕ → Type 0
NoProgram edition source lines line line_after status =
    (fault : ProgramFault) × HasNoProgram edition source fault × TellsFault lines fault line line_after status

-- what comes of definitions that are loaded
abbrev pub LoadGives : List Definition → Result Program ProgramFault → Type 0
LoadGives ds (Ok p) = (p.definitions.items ≡ ds) × (load_fault ds ≡ None) × IsLoadedFrom ds p.image
LoadGives ds (Err (why.Unloaded f)) = load_fault ds ≡ Some f
LoadGives ds (Err why.Memory) = Unit {0}
LoadGives ds (Err other) = ⊥

-- What is told of a run was written, and then the run has its line and status; or it was cut off.
abbrev pub TellsEnd : (told : ℕ) → Outcome → Outgoing → Outgoing → ℕ → Type 0
TellsEnd told result line line_after status =
    ((told ≡ DONE) × Finishes result line line_after status)
    ⊎ ((told ≡ DONE → ⊥) × (line_after ≡ line) × (status ≡ told))

-- the status of an outcome that is at a place of the program
abbrev pub located_status : Outcome → Option ℕ
located_status (outcome.Trap kind) = Some TRAP
located_status outcome.Limit = Some LIMIT
located_status result = None

-- the machine from a state on, by its input and the number of its steps
abbrev pub steps_from : Paused → States
steps_from p input n = runs.steps p.image n (machine_at p input [])
