-- What is answered where memory was refused, and what is done for a job.
use Rattle.std.proofs.Common.{ap, ◌∙◌, subst, ◌≡◌, ◌⊎◌, ℕ, List, [], ◌∷◌, map, length, refl, true, false, sym, inl, inr}
use Rattle.std.specs.Prelude.{◌==◌, Option}
use Rattle.std.specs.Borrow.{Bor}
use Rattle.clap.specs.Words.{IsAmong, Row, Text, fault_of, subcommand_of}
use Rattle.clap.specs.declared.error.kind.ErrorKind.{ErrorKind}
use Rattle.clap.specs.declared.error.kind.ErrorKind.TheVariants as kind
use Rattle.bword.specs.ByteEnds.{Incoming, Unread, incoming_of}
use Rattle.bword.specs.declared.edition.Edition.{Edition}
use Rattle.blang.specs.declared.status.TheConstants.{DEVICE, MEMORY}
use Rattle.blang.specs.Headline.{GoesOff, Headline}
use Rattle.blang.specs.Reports.{HasNotRun, RunEnds}
use Rattle.brun.specs.OneRun.{unread}
use Rattle.bsources.specs.Files.{Followed}
use Rattle.bcommand.specs.CommandLine.{Asked, SourceAsked, asked, asked_of, command_line, full_words}
use Rattle.bcommand.specs.declared.job.Job.{Job}
use Rattle.bcore.specs.declared.shelf.FileFault.{FileFault}
use Rattle.bcore.specs.declared.shelf.FileFault.TheVariants as file_fault
use Rattle.bcore.specs.declared.sources.NamedFault.{NamedFault}
use Rattle.bcore.specs.declared.sources.Unread.TheVariants as read_faults
use Rattle.bcore.specs.declared.sources.Whole.{Whole}
use Rattle.bcore.specs.Reading.{HasReadLibs, HasReadSource, IsUnread, LibIsUnread}
use Rattle.bcore.specs.Serves.{CompilesInput, CompilesJoined, Does, GoesFile, HasNoFile, IsHelp, NamesFile, NamesLib, NamesLibOf, RefusesWords, SaysNothing, Serves, ToolsDo, compiling, did, no_memory, refused, whole}
use Rattle.bcore.specs.Shelves.{Holdings}

no_help : (k : ErrorKind) → k ≡ kind.OutOfMemory → IsHelp k → ⊥
no_help k is (inl help) = cc
no_help k is (inr version) = cc

pub memory_alone : (k : ErrorKind) (ends : RunEnds) (status : ℕ) → k ≡ kind.OutOfMemory → RefusesWords k ends status
    → SaysNothing ends status MEMORY
memory_alone k ends status is (inl tells) = absurd (no_help k is tells.help)
memory_alone k ends status is (inr (inl complains)) = absurd (complains.no_memory is)
memory_alone k ends status is (inr (inr silent)) = silent

pub done : (tools : ToolsDo) (shelf : Holdings) (job same : Job) (ends : RunEnds) (status : ℕ) → job ≡ same → Does tools shelf (asked_of same) ends status → Does tools shelf (asked_of job) ends status
done tools shelf job same ends status is does = subst (λ (j : Job). Does tools shelf (asked_of j) ends status) (sym is) does

-- the text that is given is the one that was read
pub held : (shelf : Holdings) (file : Text) (given read : List ℕ) → given ≡ read → shelf.holds file read → shelf.holds file given
held shelf file given read same holds = subst (λ t. shelf.holds file t) (sym same) holds

pub not_read : (reason : Type 0) (fault : FileFault) (ends : RunEnds) (status : ℕ) → HasNotRun ends → ends.line_after ≡ ends.line → (fault ≡ file_fault.Device → reason)
    → (fault ≡ file_fault.Device) × (status ≡ DEVICE) ⊎ (status ≡ MEMORY) → HasNoFile reason ends status
not_read reason fault ends status still silent why (inl device) = inl (why device.0, record { unread = still; no_line = silent; status_is = device.1 })
not_read reason fault ends status still silent why (inr memory) = inr (record { unread = still; no_line = silent; status_is = memory })

pub named_for : (reason other : Type 0) (file : Text) (ends : RunEnds) (status : ℕ) → (reason → other) → NamesFile reason file ends status → NamesFile other file ends status
named_for reason other file ends status why (inl named) = inl (why named.0, named.1, named.2)
named_for reason other file ends status why (inr silent) = inr silent

-- a source over an end in memory
pub gone : (shelf : Holdings) (source : SourceAsked) (steps : ℕ) (it : Whole) (given : List ℕ) (first following : Unread) (ends : RunEnds) (status : ℕ)
    → HasReadSource shelf source it → given ≡ it.text.items → first ≡ record { left = given; is_over = false } → GoesOff source.edition steps (incoming_of first) (incoming_of following) ends status
    → Headline source.edition steps (incoming_of first) (incoming_of following) ends status → GoesFile shelf source steps ends status
gone shelf source steps it given first following ends status h same is goes headline =
    let all : incoming_of first ≡ unread (whole h.reads) = ap incoming_of is ∙ ap unread (same ∙ h.text) in
    inr (inr (
      h.reads,
      following,
      subst (λ (i : Incoming). GoesOff source.edition steps i (incoming_of following) ends status) all goes,
      subst (λ (i : Incoming). Headline source.edition steps i (incoming_of following) ends status) all headline,
    ))

-- a file that follows the first one wasn't read
pub lib_named : (shelf : Holdings) (names : List Text) (it : NamedFault) (ends : RunEnds) (status : ℕ) → LibIsUnread shelf names it
    → NamesFile (it.fault ≡ file_fault.Device) it.name.now ends status → NamesLib shelf names ends status
lib_named shelf names it ends status h told = record {
  before = h.before;
  lib = it.name.now;
  after = h.after;
  in_turn = h.in_turn;
  reads = h.reads;
  named = named_for _ _ _ _ _ h.reason told;
}

-- the same of a source, whose first one was read
pub lib_named_of : (shelf : Holdings) (source : SourceAsked) (it : NamedFault) (ends : RunEnds) (status : ℕ) → IsUnread shelf source (read_faults.Lib it)
    → NamesFile (it.fault ≡ file_fault.Device) it.name.now ends status → NamesLibOf shelf source ends status
lib_named_of shelf source it ends status h told = (h.0, h.1, lib_named shelf source.libs it ends status h.2 told)

-- the source on the input was compiled, and files follow
pub compiled_with : (shelf : Holdings) (edition : Edition) (libs : List Text) (rest : List ℕ) (it : Followed) (ends : RunEnds) (status : ℕ) → (libs ≡ [] → ⊥)
    → HasReadLibs shelf libs it → rest ≡ it.text → CompilesJoined edition rest ends status → CompilesInput shelf edition libs ends status
compiled_with shelf edition [] rest it ends status some read is compiles = absurd (some refl)
compiled_with shelf edition (lib ∷ libs) rest it ends status some read is compiles =
    inr (read.0, subst (λ (t : List ℕ). CompilesJoined edition t ends status) (is ∙ ap (λ (f : Followed). f.text) read.1) compiles)

pub not_compiled : (shelf : Holdings) (edition : Edition) (libs : List Text) (ends : RunEnds) (status : ℕ) → (libs ≡ [] → ⊥)
    → NamesLib shelf libs ends status → CompilesInput shelf edition libs ends status
not_compiled shelf edition [] ends status some told = absurd (some refl)
not_compiled shelf edition (lib ∷ libs) ends status some told = inl told

-- a list of which each element is shown otherwise
pub shown_some : (libs : List (Bor Text)) → (length libs == 0) ≡ false → map (λ lib. lib.now) libs ≡ [] → ⊥
shown_some [] some e = cc
shown_some (lib ∷ libs) some e = cc

-- the words that were read are the full ones of a command line
read_full : (given kept : List (Bor Text)) (words : List Text) → given ≡ kept → map (λ w. w.now) kept ≡ full_words true words
    → map (λ w. w.now) given ≡ full_words true words
read_full given kept words same full = ap (λ (ws : List (Bor Text)). map (λ w. w.now) ws) same ∙ full

-- they have no fault, and what they ask for was done
pub served : (tools : ToolsDo) (shelf : Holdings) (words : List Text) (given kept : List (Bor Text)) (job : Job) (rows : Option (Text × List Row)) (ends : RunEnds) (status : ℕ)
    → given ≡ kept → map (λ w. w.now) kept ≡ full_words true words
    → (fault_of command_line (map (λ w. w.now) given) ≡ []) × (rows ≡ subcommand_of command_line (map (λ w. w.now) given))
    → asked_of job ≡ asked rows → Does tools shelf (asked_of job) ends status → Serves tools shelf words ends status
served tools shelf words given kept job rows ends status same full found asks does =
    let read = read_full given kept words same full in
    did (subst (λ (ws : List Text). fault_of command_line ws ≡ []) read found.0)
    (subst (λ (a : Asked). Does tools shelf a ends status) (asks ∙ (ap asked found.1 ∙ ap (λ (ws : List Text). asked (subcommand_of command_line ws)) read)) does)

-- they have this fault, or memory was refused
pub complained : (tools : ToolsDo) (shelf : Holdings) (words : List Text) (given kept : List (Bor Text)) (k : ErrorKind) (ends : RunEnds) (status : ℕ)
    → given ≡ kept → map (λ w. w.now) kept ≡ full_words true words
    → (k ≡ kind.OutOfMemory) ⊎ IsAmong k (fault_of command_line (map (λ w. w.now) given)) → RefusesWords k ends status
    → Serves tools shelf words ends status
complained tools shelf words given kept k ends status same full (inl memory) refuses = no_memory (memory_alone k ends status memory refuses)
complained tools shelf words given kept k ends status same full (inr among) refuses =
    refused k (subst (λ (ws : List Text). IsAmong k (fault_of command_line ws)) (read_full given kept words same full) among) refuses
