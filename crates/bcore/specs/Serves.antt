-- Promise: the answer to a command line, by a program with some tools.
use Rattle.std.specs.Prelude.{◌≡◌, ◌≢◌, ℕ, List, [], ◌∷◌, ◌++◌, All, codes, ◌⊎◌, map as map_each}
use Rattle.clap.specs.Words.{IsAmong, Text}
use Rattle.clap.specs.declared.error.kind.ErrorKind.{ErrorKind}
use Rattle.clap.specs.declared.error.kind.ErrorKind.TheVariants as kind
use Rattle.bword.specs.ByteEnds.{Incoming, Unread, incoming_of}
use Rattle.bword.specs.declared.edition.Edition.{Edition}
use Rattle.blang.specs.Compiles.{CompileHeadline, Compiles, Run}
use Rattle.blang.specs.declared.status.TheConstants.{DONE, DEVICE, MEMORY, WRONG_COMMAND}
use Rattle.blang.specs.Headline.{GoesOff, Headline}
use Rattle.blang.specs.Reports.{Reported, RunEnds, HasNotRun}
use Rattle.brun.specs.Migrates.{Migrates, rewriting}
use Rattle.brun.specs.OneRun.{unread}
use Rattle.brun.specs.Runs.{RunsText}
use Rattle.bsources.specs.Files.{NamedText, followed, joined}
use Rattle.bsources.specs.JoinedEnds.{IsJoined, Joined, joined_in, joined_new, lender_joined}
use Rattle.bcommand.specs.CommandLine.{Asked, SourceAsked, asked_in, clash_line, fault_in}
use Rattle.bcommand.specs.CommandLine.{compile, run, locate_code, go, migrate, ask, check_by, contradiction, find, verify}
use Rattle.bcore.specs.Shelves.{Holdings}

-- what tools do for what is asked for, of these files
abbrev pub ToolsDo : Type 1
ToolsDo = Holdings → Asked → RunEnds → ℕ → Type 0

-- the message for words that aren't UTF-8
abbrev pub unread_line : List ℕ
unread_line = codes "error: a word of the command line is not UTF-8\n\nFor more information, try '--help'.\n"

-- Nothing was read or written, and this is the status.
pub record SaysNothing (ends : RunEnds) (status answer : ℕ) : Type 0 where
  pub unread : HasNotRun ends
  pub no_line : ends.line_after ≡ ends.line
  pub status_is : status ≡ answer

-- The file could not be opened or read, for which there is this reason, or memory ran out.
abbrev pub HasNoFile : Type 0 → RunEnds → ℕ → Type 0
HasNoFile reason ends status = reason × SaysNothing ends status DEVICE ⊎ SaysNothing ends status MEMORY

-- the message for a file that can't be opened or read
abbrev pub no_file_line : List ℕ → List ℕ
no_file_line file = codes "error: the file '" ++ file ++ codes "' can't be read\n"

-- The file could not be opened or read, for which there is this reason, and its name was told; or memory was refused.
abbrev pub NamesFile : Type 0 → Text → RunEnds → ℕ → Type 0
NamesFile reason file ends status =
    reason × HasNotRun ends × Reported (no_file_line file) DEVICE ends.line ends.line_after status
    ⊎ SaysNothing ends status MEMORY

-- the compiler over a source and the streams of the program
abbrev pub compiling : Edition → (source source_after : Incoming) → RunEnds → ℕ → Run
compiling edition source source_after ends status = record {
  edition = edition;
  source = source;
  source_after = source_after;
  code = ends.out;
  code_after = ends.out_after;
  line = ends.line;
  line_after = ends.line_after;
  status = status;
}

-- The files that follow the first one of a source were read.
pub record ReadsLibs (shelf : Holdings) (names : List Text) : Type 0 where
  pub texts : List NamedText
  pub names_are : map_each (λ it. it.name) texts ≡ names
  pub held : All (λ it. shelf.holds it.name it.text) texts

-- A source was read: its first file, and those that follow it.
pub record Reads (shelf : Holdings) (source : SourceAsked) : Type 0 where
  pub text : List ℕ
  pub held : shelf.holds source.file text
  pub libs : ReadsLibs shelf source.libs

-- the bytes of the source: those of its files, a newline between them
abbrev pub whole : {shelf : Holdings} {source : SourceAsked} → Reads shelf source → List ℕ
whole r = joined r.text (map_each (λ it. it.text) r.libs.texts)

-- Of these files those before one were read. That one could not be opened or read, and its name was told; or memory was
-- refused.
pub record NamesLib (shelf : Holdings) (names : List Text) (ends : RunEnds) (status : ℕ) : Type 0 where
  pub before : List Text
  pub lib : Text
  pub after : List Text
  pub in_turn : names ≡ before ++ lib ∷ after
  pub reads : ReadsLibs shelf before
  pub named : NamesFile (shelf.lacks lib) lib ends status

-- the first file of a source was read, and then one could not be
abbrev pub NamesLibOf : Holdings → SourceAsked → RunEnds → ℕ → Type 0
NamesLibOf shelf source ends status =
    (text : List ℕ) × shelf.holds source.file text × NamesLib shelf source.libs ends status

-- A source was compiled over an end over the input and these bytes after it, of which this stands after all calls.
pub record CompilesJoined (edition : Edition) (rest : List ℕ) (ends : RunEnds) (status : ℕ) : Type 0 where
  pub source : Joined
  pub source_after : Joined
  pub begins : source ≡ joined_new ends.input source.ready source.lender rest
  pub same : lender_joined source_after ≡ lender_joined source
  pub stands : IsJoined source_after
  pub ended : source_after.first ≡ ends.input_after
  pub compiles : Compiles (compiling edition (joined_in source) (joined_in source_after) ends status)
  pub headline : CompileHeadline (compiling edition (joined_in source) (joined_in source_after) ends status)

-- a source was compiled over the input, and these files after it
abbrev pub CompilesInput : Holdings → Edition → List Text → RunEnds → ℕ → Type 0
CompilesInput shelf edition [] ends status =
    Compiles (compiling edition ends.input ends.input_after ends status)
    × CompileHeadline (compiling edition ends.input ends.input_after ends status)
CompilesInput shelf edition (lib ∷ libs) ends status = NamesLib shelf (lib ∷ libs) ends status
    ⊎ ((r : ReadsLibs shelf (lib ∷ libs)) × CompilesJoined edition (followed r.texts).text ends status)

-- the source in a file, and in those that follow it, was compiled and run
abbrev pub GoesFile : Holdings → SourceAsked → (steps : ℕ) → RunEnds → ℕ → Type 0
GoesFile shelf source steps ends status = HasNoFile (shelf.lacks source.file) ends status
    ⊎ NamesLibOf shelf source ends status
    ⊎ ((r : Reads shelf source) × (following : Unread)
    × GoesOff source.edition steps (unread (whole r)) (incoming_of following) ends status
    × Headline source.edition steps (unread (whole r)) (incoming_of following) ends status)

-- the code text in a file was run
abbrev pub RunsFile : Holdings → (file : Text) → (steps : ℕ) → RunEnds → ℕ → Type 0
RunsFile shelf file steps ends status = HasNoFile (shelf.lacks file) ends status
    ⊎ ((text : List ℕ) × shelf.holds file text × RunsText steps text ends status)

-- what was asked for is done, for texts that the shelf holds under the names of the files; or it is left to the tools
abbrev pub Does : ToolsDo → Holdings → Asked → RunEnds → ℕ → Type 0
Does tools shelf (compile edition libs) ends status = CompilesInput shelf edition libs ends status
Does tools shelf (run file steps) ends status = RunsFile shelf file steps ends status
Does tools shelf (go source steps) ends status = GoesFile shelf source steps ends status
Does tools shelf migrate ends status =
    Migrates (rewriting ends.input ends.input_after ends.out ends.out_after) ends.line ends.line_after status
Does tools shelf (contradiction clash) ends status =
    HasNotRun ends × Reported (clash_line clash) WRONG_COMMAND ends.line ends.line_after status
Does tools shelf (locate_code file steps) ends status = tools shelf (locate_code file steps) ends status
Does tools shelf (verify file) ends status = tools shelf (verify file) ends status
Does tools shelf (ask source question) ends status = tools shelf (ask source question) ends status
Does tools shelf (check_by source rules for_editor) ends status =
    tools shelf (check_by source rules for_editor) ends status
Does tools shelf (find it) ends status = tools shelf (find it) ends status

abbrev pub IsHelp : ErrorKind → Type 0
IsHelp k = (k ≡ kind.DisplayHelp) ⊎ (k ≡ kind.DisplayVersion)

-- A text was written to the output, for a reason of this kind: help or the version was asked for.
pub record AnswersHelp (k : ErrorKind) (ends : RunEnds) (status : ℕ) : Type 0 where
  pub help : IsHelp k
  pub unread : ends.input_after ≡ ends.input
  pub no_line : ends.line_after ≡ ends.line
  pub text : List ℕ
  pub some_text : text ≢ []
  pub told : Reported text DONE ends.out ends.out_after status

-- A text was written beside the output, for a reason of another kind.
pub record Complains (k : ErrorKind) (ends : RunEnds) (status : ℕ) : Type 0 where
  pub no_help : IsHelp k → ⊥
  pub no_memory : k ≢ kind.OutOfMemory
  pub unread : HasNotRun ends
  pub text : List ℕ
  pub some_text : text ≢ []
  pub told : Reported text WRONG_COMMAND ends.line ends.line_after status

-- what is answered for a reason of this kind
abbrev pub RefusesWords : ErrorKind → RunEnds → ℕ → Type 0
RefusesWords k ends status = AnswersHelp k ends status ⊎ Complains k ends status ⊎ SaysNothing ends status MEMORY

-- Words without a fault get what they ask for, of the files on this shelf. Others are answered for one of their faults,
-- of which help is one. To read any words takes memory; where it is refused, nothing is read or written.
pub data Serves (tools : ToolsDo) (shelf : Holdings) (words : List Text) (ends : RunEnds) (status : ℕ) : Type 0 where
  did : fault_in words ≡ [] → Does tools shelf (asked_in words) ends status
      → Serves tools shelf words ends status
  refused : (k : ErrorKind) → IsAmong k (fault_in words) → RefusesWords k ends status
      → Serves tools shelf words ends status
  no_memory : SaysNothing ends status MEMORY → Serves tools shelf words ends status
