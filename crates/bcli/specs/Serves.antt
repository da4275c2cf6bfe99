-- Promise: the answer to a command line by the whole program, and what each tool does for it.
use Rattle.std.specs.Prelude.{◌≡◌, ℕ, Bool, List, [], codes, if◌then◌else◌, ◌⊎◌, Option, Some, None}
use Rattle.clap.specs.Words.{Text}
use Rattle.bword.specs.ByteEnds.{Unread, incoming_of}
use Rattle.bword.specs.declared.edition.Edition.{Edition}
use Rattle.brun.specs.OneRun.{unread}
use Rattle.blang.specs.Reports.{HasNotRun, RunEnds}
use Rattle.bsources.specs.Files.{Files, file_of, followed}
use Rattle.bcheck.specs.Checks.{Checks}
use Rattle.bcheck.specs.declared.form.FindingForm.{FindingForm}
use Rattle.bcheck.specs.declared.form.FindingForm.TheVariants as forms
use Rattle.bverify.specs.Verifies.{VerifiesText}
use Rattle.blist.specs.Listings.{Lists}
use Rattle.blist.specs.Maps.{Maps}
use Rattle.bnaming.specs.Names.{Names}
use Rattle.btools.specs.Origins.{Origin, Source, Code}
use Rattle.btools.specs.Programs.{ToldEnds}
use Rattle.bdraw.specs.Draws.{Draws}
use Rattle.btrace.specs.Traces.{Traces}
use Rattle.bcareful.specs.Runs.{Runs}
use Rattle.bcareful.specs.declared.care.Care as careful
use Rattle.bcareful.specs.declared.care.Care.TheVariants as taken
use Rattle.bwatch.specs.declared.trail.TraceRows.{TraceRows as Traced}
use Rattle.bwatch.specs.declared.trail.TraceRows.TheVariants as traced
use Rattle.bcount.specs.Counts.{Counts}
use Rattle.bcount.specs.declared.table.CountStyle.{CountStyle}
use Rattle.bcount.specs.declared.table.CountStyle.TheVariants as styles
use Rattle.bshow.specs.Shows.{Shows, Asked as PageAsked}
use Rattle.bfind.specs.Finds.{ChecksBy, Finds, IsRefused}
use Rattle.bfind.specs.declared.own.OwnRules.{OwnRules}
use Rattle.bfix.specs.Fixes.{Fixes}
use Rattle.bfix.specs.Ports.{Ports}
use Rattle.bshow.specs.CarefulPages.{ShowsCarefully}
use Rattle.bformat.specs.Formats.{Formats}
use Rattle.bwhere.specs.Wheres.{LocatesCode}
use Rattle.bcommand.specs.CommandLine.{Asked, OriginAsked, Question, SearchAsked, SourceAsked}
use Rattle.bcommand.specs.CommandLine.{check_by, find}
use Rattle.bcommand.specs.CommandLine.{from_source, from_code, from_made, try_out}
use Rattle.bcommand.specs.CommandLine.{locate_code, ask, list, map, draw}
use Rattle.bcommand.specs.CommandLine.{check, fix, tell_names, trace, locate, go_careful, count, show, format, verify}
use Rattle.bcommand.specs.CommandLine.{port}
use Rattle.bcommand.specs.declared.job.Care.{Care}
use Rattle.bcommand.specs.declared.job.Care.TheVariants as care
use Rattle.bcommand.specs.declared.job.Rows.{Rows}
use Rattle.bcommand.specs.declared.job.Rows.TheVariants as which
use Rattle.bcore.specs.Processes.{AnswersWords, KnownStreams, PerformsTask}
use Rattle.bcore.specs.Serves.{Does as DoesWith, NamesFile, NamesLibOf, Reads, Serves as ServesWith, whole}
use Rattle.bcore.specs.Shelves.{Holdings}
use Rattle.bcli.specs.Explains.{LocatesAndExplains}
use Rattle.bcli.specs.Passes.{PassesAll}
use Rattle.bcli.specs.Tries.{Tries}

-- the streams of a command that tells of a source
abbrev pub telling_ends : RunEnds → ToldEnds
telling_ends ends =
    record { out = ends.out; out_after = ends.out_after; line = ends.line; line_after = ends.line_after }

-- which steps are shown
abbrev pub traced_rows : Rows → Traced
traced_rows (which.From number) = traced.From number
traced_rows (which.Last most) = traced.Last most

-- how counts are told
abbrev pub style_of : (for_editor : Bool) → CountStyle
style_of for_editor = if for_editor then styles.Json else styles.Table

-- how findings are told
abbrev pub form_of : (for_editor : Bool) → FindingForm
form_of for_editor = if for_editor then forms.Json else forms.Text

abbrev pub files_read : {shelf : Holdings} {source : SourceAsked} → Reads shelf source → Files
files_read {shelf} {source} r =
    record { first = file_of source.file r.text; rest = (followed r.libs.texts).files }

-- what a question asks a program to be read from
abbrev pub origin_of : Question → OriginAsked
origin_of (list origin name) = origin
origin_of (map origin) = origin
origin_of (draw origin steps) = origin
origin_of (locate origin steps) = origin
origin_of (go_careful origin it steps) = origin
origin_of (show origin it steps shown input) = origin
origin_of (trace origin steps shown function) = origin
origin_of (count origin steps for_editor) = origin
origin_of question = from_source

-- what a careful run does that is asked for so
abbrev pub care_taken : Care → careful.Care
care_taken care.Stays = taken.Stays
care_taken care.Warns = taken.Warns
care_taken care.Wraps = taken.Wraps

-- what is asked of a page, before something is found
abbrev pub page_asked : (steps : ℕ) → Traced → Files → (given : List ℕ) → PageAsked
page_asked steps rows files given =
    record { steps = steps; which = rows; files = files; given = given; finding = None }

-- a page of a run, or of one that is looked at in this way
abbrev pub ShowsBy : Option Care → Origin → (text : List ℕ) → PageAsked → RunEnds → ℕ → Type 0
ShowsBy None origin text asked ends status = Shows origin text asked ends status
ShowsBy (Some it) origin text asked ends status = ShowsCarefully (care_taken it) origin text asked ends status

-- one of a run whose input is given, or that reads the program's own
abbrev pub ShowsRun : Option Care → Origin → Files → (text : List ℕ) → (steps : ℕ) → Traced → (input : Option Text)
    → RunEnds → ℕ → Type 0
ShowsRun it origin files text steps rows None ends status =
    ShowsBy it origin text (page_asked steps rows files []) ends status
ShowsRun it origin files text steps rows (Some given) ends status =
    (ends.input_after ≡ ends.input) × (after : Unread)
    × ShowsBy it origin text (page_asked steps rows files given)
    (record ends { input = unread given; input_after = incoming_of after }) status

-- what is asked of a source of these files and of this text is answered, or of the code text that is its origin
abbrev pub AnswersOf : Origin → Edition → Files → (text : List ℕ) → Question → RunEnds → ℕ → Type 0
AnswersOf origin edition files text (list asked name) ends status =
    (ends.input_after ≡ ends.input) × Lists origin text name (telling_ends ends) status
AnswersOf origin edition files text (map asked) ends status =
    (ends.input_after ≡ ends.input) × Maps origin text (telling_ends ends) status
AnswersOf origin edition files text (draw asked steps) ends status = Draws origin text steps ends status
AnswersOf origin edition files text (check for_editor) ends status =
    (ends.input_after ≡ ends.input) × (ends.line_after ≡ ends.line)
    × Checks (record {
      edition = edition;
      form = form_of for_editor;
      files = files;
      source = text;
      out = ends.out;
      out_after = ends.out_after;
      status = status;
    })
AnswersOf origin edition files text fix ends status = (ends.input_after ≡ ends.input) × Fixes (record {
  edition = edition;
  files = files;
  source = text;
  out = ends.out;
  out_after = ends.out_after;
  line = ends.line;
  line_after = ends.line_after;
  status = status;
})
AnswersOf origin edition files text tell_names ends status =
    (ends.input_after ≡ ends.input) × (ends.line_after ≡ ends.line)
    × Names (record {
      edition = edition;
      files = files;
      source = text;
      out = ends.out;
      out_after = ends.out_after;
      status = status;
    })
AnswersOf origin edition files text (trace asked steps shown function) ends status =
    Traces origin text steps (traced_rows shown) files function ends status
AnswersOf origin edition files text (locate asked steps) ends status =
    LocatesAndExplains origin text files steps ends status
AnswersOf origin edition files text (go_careful asked it steps) ends status =
    Runs (record { origin = origin; files = files; care = care_taken it; steps = steps }) text ends status
AnswersOf origin edition files text (try_out steps) ends status = Tries edition files text steps ends status
AnswersOf origin edition files text (count asked steps for_editor) ends status =
    Counts (record { origin = origin; steps = steps; files = files; style = style_of for_editor }) text ends status
AnswersOf origin edition files text (show asked it steps shown input) ends status =
    ShowsRun it origin files text steps (traced_rows shown) input ends status
AnswersOf origin edition files text (format is_check) ends status = (ends.input_after ≡ ends.input) × Formats (record {
  edition = edition;
  source = text;
  is_check = is_check;
  out = ends.out;
  out_after = ends.out_after;
  line = ends.line;
  line_after = ends.line_after;
  status = status;
})
AnswersOf origin edition files text port ends status = (ends.input_after ≡ ends.input) × Ports (record {
  edition = edition;
  files = files;
  source = text;
  out = ends.out;
  out_after = ends.out_after;
  line = ends.line;
  line_after = ends.line_after;
  status = status;
})

-- Something is done with the names of a file, where one is asked for and was read. One that could not be is named; or
-- memory was refused.
abbrev pub OnNames : Holdings → (named : Option Text) → (does : Option (List ℕ) → RunEnds → ℕ → Type 0) → RunEnds → ℕ
    → Type 0
OnNames shelf None does ends status = does None ends status
OnNames shelf (Some named) does ends status = NamesFile (shelf.lacks named) named ends status
    ⊎ ((names : List ℕ) × shelf.holds named names × does (Some names) ends status)

-- Something is done of a program: of the source, in its edition; of the code text that it is; or of the one in another
-- file, where that, then the file of its lines and then that of its names were read.
abbrev pub OnOrigin : Holdings → Edition → (text : List ℕ) → OriginAsked → (does : Origin → RunEnds → ℕ → Type 0)
    → RunEnds → ℕ → Type 0
OnOrigin shelf edition text from_source does ends status = does (Source edition) ends status
OnOrigin shelf edition text from_code does ends status =
    does (Code (record { code = text; lines = None; source = None; names = None })) ends status
OnOrigin shelf edition text (from_made made lined named) does ends status =
    NamesFile (shelf.lacks made) made ends status
    ⊎ ((code : List ℕ) × shelf.holds made code × (NamesFile (shelf.lacks lined) lined ends status
    ⊎ ((lines : List ℕ) × shelf.holds lined lines
    × OnNames shelf named
    (λ names. does (Code (record { code = code; lines = Some lines; source = Some text; names = names }))) ends
    status)))

-- what is asked of a source of these files and of this text is answered, or of a code text
abbrev pub Answers : Holdings → Edition → Files → (text : List ℕ) → Question → RunEnds → ℕ → Type 0
Answers shelf edition files text question ends status = OnOrigin shelf edition text (origin_of question)
    (λ origin. AnswersOf origin edition files text question) ends status

-- A source that was read was checked by the rules in a file; or that could not be read, and was named.
abbrev pub ChecksRead : Holdings → Edition → Files → (source : List ℕ) → (rules : Text) → (for_editor : Bool) → RunEnds
    → ℕ → Type 0
ChecksRead shelf edition files source rules for_editor ends status = NamesFile (shelf.lacks rules) rules ends status
    ⊎ ((text : List ℕ) × shelf.holds rules text × (ends.input_after ≡ ends.input)
    × ChecksBy edition (form_of for_editor) files source rules ends.out ends.out_after ends.line ends.line_after status)

abbrev pub ChecksFile : Holdings → SourceAsked → (rules : Text) → (for_editor : Bool) → RunEnds → ℕ → Type 0
ChecksFile shelf source rules for_editor ends status = NamesFile (shelf.lacks source.file) source.file ends status
    ⊎ NamesLibOf shelf source ends status
    ⊎ ((r : Reads shelf source)
    × ChecksRead shelf source.edition (files_read r) (whole r) rules for_editor ends status)

-- It was told where rules fit in a file, which is a source of its own; or it could not be read, and was named.
abbrev pub FindsFile : Holdings → OwnRules → Edition → (for_editor : Bool) → (file : Text) → RunEnds → ℕ → Type 0
FindsFile shelf own edition for_editor file ends status = NamesFile (shelf.lacks file) file ends status
    ⊎ ((text : List ℕ) × shelf.holds file text × (ends.input_after ≡ ends.input)
    × Finds edition (form_of for_editor) (record { first = file_of file text; rest = [] }) text own ends.out
    ends.out_after ends.line ends.line_after status)

-- A pattern was told to be none, and nothing else happened; or it was told where it fits in one file after another.
abbrev pub FindsAll : Holdings → SearchAsked → RunEnds → ℕ → Type 0
FindsAll shelf it ends status =
    HasNotRun ends × IsRefused (codes "PATTERN") ends.line ends.line_after status
    ⊎ ((own : OwnRules) × PassesAll (FindsFile shelf own it.edition it.for_editor) it.files ends status)

-- what is asked of a tool is done, for texts that the shelf holds under the names of the files
abbrev pub UsesTool : Holdings → Asked → RunEnds → ℕ → Type 0
UsesTool shelf (locate_code file steps) ends status = NamesFile (shelf.lacks file) file ends status
    ⊎ ((text : List ℕ) × shelf.holds file text × LocatesCode steps text ends status)
UsesTool shelf (verify file) ends status = NamesFile (shelf.lacks file) file ends status
    ⊎ ((text : List ℕ) × shelf.holds file text × VerifiesText text (telling_ends ends) status
    × (ends.input_after ≡ ends.input))
UsesTool shelf (ask source question) ends status = NamesFile (shelf.lacks source.file) source.file ends status
    ⊎ NamesLibOf shelf source ends status
    ⊎ ((r : Reads shelf source) × Answers shelf source.edition (files_read r) (whole r) question ends status)
UsesTool shelf (check_by source rules for_editor) ends status = ChecksFile shelf source rules for_editor ends status
UsesTool shelf (find it) ends status = FindsAll shelf it ends status
UsesTool shelf other ends status = ⊥

-- what was asked for is done, by the core of the program with these tools
abbrev pub Does : Holdings → Asked → RunEnds → ℕ → Type 0
Does shelf asked ends status = DoesWith UsesTool shelf asked ends status

-- Words without a fault get what they ask for, and others an answer to one of their faults.
abbrev pub Serves : Holdings → (words : List Text) → RunEnds → ℕ → Type 0
Serves shelf words ends status = ServesWith UsesTool shelf words ends status

-- so do those of a process, whose streams are kept in order
abbrev pub ServesProcess : Holdings → Option (List Text) → (shown : Type 0) → KnownStreams → ℕ → Type 0
ServesProcess files words shown known status = PerformsTask (AnswersWords UsesTool files words) shown known status
