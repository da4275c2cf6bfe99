-- Promise: what no answer to a command line is, and what each one is.
use Rattle.std.specs.Prelude.{◌≡◌, ◌⊎◌, ℕ, ◌+◌, ◌<◌, ◌≤◌, List, [], ◌∷◌, ◌++◌, All, length, codes, true}
use Rattle.std.specs.Prelude.{Bool, IsTrue, false, Option, Some, None}
use Rattle.std.specs.Io.KnownBytes.{Appends}
use Rattle.clap.specs.Words.{IsAmong, Text}
use Rattle.clap.specs.declared.error.kind.ErrorKind.{ErrorKind}
use Rattle.clap.specs.declared.error.kind.ErrorKind.TheVariants as kind
use Rattle.bword.specs.ByteEnds.{Grew, Kept, Outgoing, Unread, Writes, incoming_of, most, outgoing_of}
use Rattle.bword.specs.declared.edition.Edition.{Edition}
use Rattle.bword.specs.declared.edition.Edition.TheVariants as editions
use Rattle.bword.specs.declared.ends.EndFault.TheVariants as end_fault
use Rattle.blang.specs.Compiles.{CompileAnswers, CompilesTo, Compilation, EndRefused, HasOutcome, IsUndisturbed, Tells}
use Rattle.blang.specs.Cut.{tokens_from}
use Rattle.blang.specs.declared.code.Definition.{Definition}
use Rattle.blang.specs.declared.token.Diagnostic.{Diagnostic}
use Rattle.blang.specs.declared.status.TheConstants.{DONE, DEVICE, FAULT, MEMORY, REFUSED, WRONG_COMMAND}
use Rattle.blang.specs.Headline.{GoesOff}
use Rattle.blang.specs.Machine.{Image}
use Rattle.blang.specs.Reports.{HasNotRun, Reported, RunEnds}
use Rattle.brun.specs.OneRun.{nothing_written, one_run_ends, unread}
use Rattle.brun.specs.Runs.{RunsText}
use Rattle.bcommand.specs.CommandLine.{Question, SourceAsked, ask, asked_in, compile, contradiction, fault_in, go, run}
use Rattle.bcommand.specs.CommandLine.{count, from_code, from_made, from_source, go_careful, locate, locate_code, show}
use Rattle.bcommand.specs.CommandLine.{trace, try_out}
use Rattle.bsources.specs.Files.{Files, file_of}
use Rattle.bsources.specs.JoinedEnds.{joined_in}
use Rattle.btools.specs.Origins.{Code, Source}
use Rattle.btools.specs.FaultPlaces.{fault_lines}
use Rattle.btools.specs.Programs.{HasFault, HasProgram}
use Rattle.bcommand.specs.declared.job.Clash.{Clash}
use Rattle.bwhere.specs.Wheres.{LocatesCode}
use Rattle.bcore.specs.declared.shelf.MemFile.{MemFile}
use Rattle.bcore.specs.Serves.{CompilesJoined, HasNoFile, IsHelp, NamesFile, NamesLib, NamesLibOf, SaysNothing}
use Rattle.bcore.specs.Serves.{compiling, unread_line}
use Rattle.bcli.specs.Serves.{Answers, AnswersOf, Does, Serves, ServesProcess, origin_of}
use Rattle.btools.specs.declared.program.ProgramFault.TheVariants as why
use Rattle.bcli.specs.Explains.{fault_explained}
use Rattle.bcli.specs.Tries.{IsTriedWhole}
use Rattle.bcore.specs.Blocks.{HandsOn, Held, TakesPiece, held}
use Rattle.bcore.specs.Processes.{KnownStreams, PerformsTask}
use Rattle.bcore.specs.Shelves.{Holdings, holding}

-- The words have a fault, and don't ask for help.
pub record AreWrong (words : List Text) : Type 0 where
  pub fault : fault_in words ≡ [] → ⊥
  pub no_help : (k : ErrorKind) → IsAmong k (fault_in words) → IsHelp k → ⊥

-- Under the name of a file just this text is read.
pub record HoldsOne (shelf : Holdings) (file text : List ℕ) : Type 0 where
  pub alone : (other : List ℕ) → shelf.holds file other → other ≡ text
  pub there : shelf.lacks file → ⊥

-- the source in a file
abbrev pub in_file : (file : Text) → Edition → SourceAsked
in_file file edition = record { file = file; libs = []; edition = edition }

-- a source in two files
abbrev pub with_lib : (file lib : Text) → Edition → SourceAsked
with_lib file lib edition = record { file = file; libs = lib ∷ []; edition = edition }

-- The input and the bytes after it are fewer than a u64 counts, and so are the calls that failed.
pub record AreCounted (rest : List ℕ) (ends : RunEnds) : Type 0 where
  pub bytes : ends.input.bound + length rest < most
  pub failures : (ends.input.failures ≤ most) × (ends.input_after.failures ≤ most)

-- No read and no write failed, and memory did not run out.
pub record NothingFails (edition : Edition) (rest : List ℕ) (ends : RunEnds) (status : ℕ) : Type 0 where
  pub counted : AreCounted rest ends
  pub undisturbed : IsUndisturbed (compiling edition ends.input ends.input_after ends status)

-- the questions that tell of a run of a source, but for a picture, a source that is tried, and the place of a run
abbrev pub tells_run : Question → Bool
tells_run (trace from_source steps shown function) = true
tells_run (go_careful from_source it steps) = true
tells_run (count from_source steps for_editor) = true
tells_run (show from_source it steps shown input) = true
tells_run question = false

-- of the files on a shelf
pub record Excluded (shelf : Holdings) : Type 0 where
  -- words without a fault get what they ask for, or a want of memory without a word
  pub asked_alone : (words : List Text) (ends : RunEnds) (status : ℕ) → fault_in words ≡ []
      → Serves shelf words ends status
      → Does shelf (asked_in words) ends status ⊎ SaysNothing ends status MEMORY
  -- wrong words that end well, that read or write, or that are answered without a line and by another status
  pub wrong_done : (words : List Text) (ends : RunEnds) → AreWrong words → Serves shelf words ends DONE → ⊥
  pub wrong_run : (words : List Text) (ends : RunEnds) (status : ℕ) → AreWrong words → Serves shelf words ends status
      → HasNotRun ends
  -- help that is a complaint, that reads, or that writes a line
  pub help_refused : (words : List Text) (ends : RunEnds) → fault_in words ≡ kind.DisplayHelp ∷ []
      → Serves shelf words ends WRONG_COMMAND → ⊥
  pub help_beside : (words : List Text) (ends : RunEnds) (status : ℕ)
      → fault_in words ≡ kind.DisplayHelp ∷ [] → Serves shelf words ends status
      → (ends.input_after ≡ ends.input) × (ends.line_after ≡ ends.line)
  -- help without a text, and a complaint without one
  pub help_silent : (words : List Text) (ends : RunEnds) → fault_in words ≡ kind.DisplayHelp ∷ []
      → ends.out ≡ outgoing_of nothing_written → ends.out_after ≡ ends.out → Serves shelf words ends DONE → ⊥
  pub complaint_silent : (words : List Text) (ends : RunEnds) → AreWrong words
      → ends.line ≡ outgoing_of nothing_written → ends.line_after ≡ ends.line
      → Serves shelf words ends WRONG_COMMAND → ⊥
  -- a file that can't be read, after which all went well, or the program read or wrote
  pub unread_done : (file : List ℕ) (ends : RunEnds) → NamesFile (Unit {0}) file ends DONE → ⊥
  pub unread_run : (file : List ℕ) (ends : RunEnds) (status : ℕ) → NamesFile (Unit {0}) file ends status
      → HasNotRun ends
  pub no_file_done : (ends : RunEnds) → HasNoFile (Unit {0}) ends DONE → ⊥
  -- a file after the first one that can't be read, after which all went well, or the program read or wrote
  pub lib_done : (libs : List Text) (ends : RunEnds) → NamesLib shelf libs ends DONE → ⊥
  pub lib_run : (libs : List Text) (ends : RunEnds) (status : ℕ) → NamesLib shelf libs ends status → HasNotRun ends
  -- one that can be read is said to be missing
  pub lib_missing : (libs : List Text) (ends : RunEnds) → All (λ lib. shelf.lacks lib → ⊥) libs
      → NamesLib shelf libs ends DEVICE → ⊥
  -- one after another that can't be read is told, and one after a first file that can't be
  pub lib_later : (lib : Text) (libs : List Text) (ends : RunEnds) (status : ℕ)
      → ((text : List ℕ) → shelf.holds lib text → ⊥) → NamesLib shelf (lib ∷ libs) ends status
      → NamesFile (shelf.lacks lib) lib ends status
  pub file_later : (source : SourceAsked) (ends : RunEnds) (status : ℕ)
      → ((text : List ℕ) → shelf.holds source.file text → ⊥) → NamesLibOf shelf source ends status → ⊥
  -- a source of two files that is run, or of which is told, as other bytes than the one's, a newline and the other's
  pub joined_alone : (file lib a b : List ℕ) (edition : Edition) (steps : ℕ) (ends : RunEnds) (status : ℕ)
      → HoldsOne shelf file a → HoldsOne shelf lib b → Does shelf (go (with_lib file lib edition) steps) ends status
      → ((following : Unread) × GoesOff edition steps (unread (a ++ 10 ∷ b)) (incoming_of following) ends status)
      ⊎ SaysNothing ends status MEMORY
  pub asked_joined : (file lib a b : List ℕ) (edition : Edition) (question : Question) (ends : RunEnds) (status : ℕ)
      → HoldsOne shelf file a → HoldsOne shelf lib b
      → Does shelf (ask (with_lib file lib edition) question) ends status
      → Answers shelf edition (record { first = file_of file a; rest = file_of lib b ∷ [] }) (a ++ 10 ∷ b) question ends
      status ⊎ SaysNothing ends status MEMORY
  -- of a code text that another compiler made of a source: another code text, other lines, or that the lines can't be
  -- read though the code text can't be, either
  pub made_alone : (file a made code lined lines : List ℕ) (edition : Edition) (question : Question) (ends : RunEnds)
      (status : ℕ) → HoldsOne shelf file a → HoldsOne shelf made code → HoldsOne shelf lined lines
      → origin_of question ≡ from_made made lined None → Does shelf (ask (in_file file edition) question) ends status
      → AnswersOf (Code (record { code = code; lines = Some lines; source = Some a; names = None })) edition
      (record { first = file_of file a; rest = [] }) a question ends status ⊎ SaysNothing ends status MEMORY
  -- the same with other names than those of its file
  pub names_alone : (file a made code lined lines named names : List ℕ) (edition : Edition) (question : Question)
      (ends : RunEnds) (status : ℕ) → HoldsOne shelf file a → HoldsOne shelf made code → HoldsOne shelf lined lines
      → HoldsOne shelf named names → origin_of question ≡ from_made made lined (Some named)
      → Does shelf (ask (in_file file edition) question) ends status
      → AnswersOf (Code (record { code = code; lines = Some lines; source = Some a; names = Some names })) edition
      (record { first = file_of file a; rest = [] }) a question ends status ⊎ SaysNothing ends status MEMORY
  pub lines_later : (made lined text : List ℕ) (named : Option Text) (edition : Edition) (files : Files)
      (question : Question) (ends : RunEnds) (status : ℕ) → ((code : List ℕ) → shelf.holds made code → ⊥)
      → origin_of question ≡ from_made made lined named
      → Answers shelf edition files text question ends status → NamesFile (shelf.lacks made) made ends status
  -- by a command that tells of a run other lines of a fault than its own and, if it lies in a file after the first one,
  -- that of its place
  pub fault_told : (edition : Edition) (files : Files) (text : List ℕ) (question : Question) (ends : RunEnds)
      (d : Diagnostic) → HasFault edition text d → tells_run question ≡ true
      → Answers shelf edition files text question ends FAULT
      → Writes ends.line (fault_lines files d) ends.line_after
  -- by the command that tells where a run is over another line than these, or another meaning
  pub fault_meant : (edition : Edition) (files : Files) (text : List ℕ) (steps : ℕ) (ends : RunEnds) (d : Diagnostic)
      → HasFault edition text d → Answers shelf edition files text (locate from_source steps) ends FAULT
      → Writes ends.line (fault_lines files d ++ fault_explained (Source edition) (why.Faulty d)) ends.line_after
  -- a source with a fault that is tried, after which something of the input was read
  pub tried_unread : (edition : Edition) (files : Files) (text : List ℕ) (steps : ℕ) (ends : RunEnds) (status : ℕ)
      (d : Diagnostic) → HasFault edition text d → Answers shelf edition files text (try_out steps) ends status
      → ends.input_after ≡ ends.input
  -- a source that compiles and loads and is tried without its check, or without its careful run after that, or told with
  -- another status than this run's, or with other advice
  pub tried_whole : (edition : Edition) (files : Files) (text : List ℕ) (steps : ℕ) (ends : RunEnds) (status : ℕ)
      (ds : List Definition) (image : Image) → HasProgram edition text ds image → status < REFUSED
      → Answers shelf edition files text (try_out steps) ends status
      → IsTriedWhole edition files text steps ends status
  -- the input and a file that are compiled as other bytes, or that get 133 or 134 where nothing failed
  pub compiled_joined : (lib b input : List ℕ) (edition : Edition) (ends : RunEnds) (status : ℕ) → HoldsOne shelf lib b
      → Tells ends.input input → NothingFails edition (10 ∷ b) ends status
      → Does shelf (compile edition (lib ∷ [])) ends status
      → HasOutcome edition (input ++ 10 ∷ b)
      × ((r : Compilation) → CompilesTo [] (tokens_from edition 1 (input ++ 10 ∷ b)) r
      → CompileAnswers (compiling edition ends.input ends.input_after ends status) r)
  -- 133 for bytes that follow the input, though no read failed and no write was refused
  pub failed_joined : (edition : Edition) (rest : List ℕ) (ends : RunEnds)
      → (it : CompilesJoined edition rest ends DEVICE) → AreCounted rest ends
      → (Grew ends.input.failures ends.input_after.failures → ⊥)
      → EndRefused (compiling edition (joined_in it.source) (joined_in it.source_after) ends DEVICE) it.compiles.taken
      end_fault.Device
  -- two options that contradict each other, and end well or run
  pub both_done : (clash : Clash) (ends : RunEnds) → Does shelf (contradiction clash) ends DONE → ⊥
  pub both_run : (clash : Clash) (ends : RunEnds) (status : ℕ) → Does shelf (contradiction clash) ends status
      → HasNotRun ends
  -- words that can't be read and end well
  pub unread_words_done : (old new : Outgoing) → Reported unread_line WRONG_COMMAND old new DONE → ⊥

-- the source in it
abbrev pub alone : MemFile → Edition → SourceAsked
alone file edition = in_file file.name.now edition

-- its name and its lines
abbrev pub files_alone : MemFile → Files
files_alone file = record { first = file_of file.name.now file.text.now; rest = [] }

-- of a file in memory
pub record FileIsRead (file : MemFile) : Type 0 where
  -- it is said to be missing
  pub no_file : (ends : RunEnds) → HasNoFile (Holdings.lacks (holding file) file.name.now) ends DEVICE → ⊥
  pub named : (ends : RunEnds) → NamesFile (Holdings.lacks (holding file) file.name.now) file.name.now ends DEVICE → ⊥
  pub lib_named : (ends : RunEnds) → NamesLib (holding file) (file.name.now ∷ []) ends DEVICE → ⊥
  -- another code text is run
  pub run_alone : (steps : ℕ) (ends : RunEnds) (status : ℕ) → Does (holding file) (run file.name.now steps) ends status
      → RunsText steps file.text.now ends status ⊎ SaysNothing ends status MEMORY
  pub located_alone : (steps : ℕ) (ends : RunEnds) (status : ℕ)
      → Does (holding file) (locate_code file.name.now steps) ends status
      → LocatesCode steps file.text.now ends status ⊎ SaysNothing ends status MEMORY
  -- another source is compiled and run, or this one as of another edition
  pub go_alone : (edition : Edition) (steps : ℕ) (ends : RunEnds) (status : ℕ)
      → Does (holding file) (go (alone file edition) steps) ends status
      → ((following : Unread) × GoesOff edition steps (unread file.text.now) (incoming_of following) ends status)
      ⊎ SaysNothing ends status MEMORY
  -- what is asked is answered of another source
  pub ask_alone : (edition : Edition) (question : Question) (ends : RunEnds) (status : ℕ)
      → Does (holding file) (ask (alone file edition) question) ends status
      → Answers (holding file) edition (files_alone file) file.text.now question ends status
      ⊎ SaysNothing ends status MEMORY
  -- of another code text than this one
  pub code_alone : (edition : Edition) (question : Question) (ends : RunEnds) (status : ℕ)
      → origin_of question ≡ from_code → Does (holding file) (ask (alone file edition) question) ends status
      → AnswersOf (Code (record { code = file.text.now; lines = None; source = None; names = None })) edition
      (files_alone file) file.text.now question ends status ⊎ SaysNothing ends status MEMORY
  -- another output than `a`, or another status than 0
  pub one_go : (input : Unread) (out line : Kept) (status : ℕ) → file.text.now ≡ codes "main(){putchar('a');}"
      → Does (holding file) (go (alone file editions.One) 100) (one_run_ends input out line) status
      → (status ≡ MEMORY) ⊎ ((status ≡ 0) × (out.bytes ≡ codes "a") × (line.bytes ≡ []))

-- a process whose writer of lines held these bytes and was given no more
abbrev pub silent_lines : (input : Option (List ℕ)) (told : List ℕ) → KnownStreams
silent_lines input told = record { input = input; line = Some told; line_after = Some told }

-- of the streams of a process, whether the output was shown or not
pub record ProcessExcluded (files : Holdings) : Type 0 where
  -- a call for help that is answered as no words or others are
  pub help_unserved : (words : List Text) (known : KnownStreams) → fault_in words ≡ kind.DisplayHelp ∷ []
      → ServesProcess files (Some words) (Unit {0}) known WRONG_COMMAND → ⊥
  -- wrong words, or words that can't be read, after which all went well
  pub wrong_status : (words : List Text) (known : KnownStreams) → AreWrong words
      → ServesProcess files (Some words) (Unit {0}) known DONE → ⊥
  pub unread_status : (known : KnownStreams) → ServesProcess files None (Unit {0}) known DONE → ⊥
  -- a complaint that doesn't come to the writer of lines
  pub line_lost : (words : List Text) (input : Option (List ℕ)) (told : List ℕ) → AreWrong words
      → ServesProcess files (Some words) (Unit {0}) (silent_lines input told) WRONG_COMMAND → ⊥
  pub unread_line_lost : (input : Option (List ℕ)) (told : List ℕ)
      → ServesProcess files None (Unit {0}) (silent_lines input told) WRONG_COMMAND → ⊥
  -- a status that no task of this kind answers, or one that isn't that of a failed write though nothing was shown
  pub unanswered : (test : RunEnds → ℕ → Bool) (known : KnownStreams) (status : ℕ)
      → ((ends : RunEnds) → test ends status ≡ false)
      → PerformsTask (λ ends told. IsTrue (test ends told)) (Unit {0}) known status
      → (status ≡ DEVICE) ⊎ (status ≡ MEMORY)
  pub unshown : (known : KnownStreams) (status : ℕ) → PerformsTask (λ ends told. Unit {0}) ⊥ known status
      → (status ≡ DEVICE) ⊎ (status ≡ MEMORY)
  -- a block that loses bytes or has others, when it takes a piece and when it shows what it keeps
  pub held_grows : (has_room fits : Bool) (old new : Held) (piece : List ℕ) → TakesPiece has_room fits old piece new
      → Appends (held old) (held new) piece
  pub held_stays : (old new : Held) → HandsOn old old.kept [] new → Appends (held old) (held new) []
