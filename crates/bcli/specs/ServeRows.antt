-- Closed facts: how an option changes what is asked, what is read of the files of a source, and that each answer is one
-- for the edition, the files and the steps that were asked for.
use Rattle.std.proofs.Common.{inr}
use Rattle.std.specs.Prelude.{◌≡◌, ℕ, Bool, true, false, List, [], ◌∷◌, Option, Some, None, codes}
use Rattle.std.specs.Prelude.{map, refl}
use Rattle.clap.specs.Words.{Text}
use Rattle.bword.specs.ByteEnds.{Unread, incoming_of}
use Rattle.bword.specs.declared.edition.Edition.{Edition}
use Rattle.blang.specs.Compiles.{CompileHeadline, Compiles}
use Rattle.blang.specs.Headline.{GoesOff, Headline}
use Rattle.blang.specs.Reports.{RunEnds}
use Rattle.blang.specs.declared.run.LoadFault.TheVariants as load
use Rattle.blang.specs.declared.token.About.TheVariants as about
use Rattle.blang.specs.declared.token.Letters.{Letters}
use Rattle.blang.specs.declared.token.Letters.TheVariants as letters
use Rattle.bauthor.specs.declared.fault.LineWanted.TheVariants as line_wanted
use Rattle.btools.specs.declared.program.ProgramFault.TheVariants as why
use Rattle.bcareful.specs.Runs.{Runs}
use Rattle.bcareful.specs.declared.care.Care.TheVariants as taken
use Rattle.bcheck.specs.Checks.{Checks}
use Rattle.bfix.specs.Fixes.{Fixes}
use Rattle.bfix.specs.Ports.{Ports}
use Rattle.bcheck.specs.declared.form.FindingForm.TheVariants as forms
use Rattle.bcount.specs.declared.table.CountStyle.TheVariants as styles
use Rattle.bcount.specs.Counts.{Counts}
use Rattle.bdraw.specs.Draws.{Draws}
use Rattle.bformat.specs.Formats.{Formats}
use Rattle.blist.specs.Listings.{Lists}
use Rattle.blist.specs.Maps.{Maps}
use Rattle.bnaming.specs.Names.{Names}
use Rattle.brun.specs.OneRun.{unread}
use Rattle.brun.specs.Runs.{RunsText}
use Rattle.bshow.specs.CarefulPages.{ShowsCarefully}
use Rattle.bshow.specs.Shows.{Shows}
use Rattle.btools.specs.Origins.{Code, Origin, Source}
use Rattle.btrace.specs.Traces.{Traces}
use Rattle.bverify.specs.Verifies.{VerifiesText}
use Rattle.bwatch.specs.declared.trail.TraceRows.TheVariants as traced
use Rattle.bwhere.specs.Wheres.{LocatesCode}
use Rattle.bword.specs.declared.edition.Edition.TheVariants as editions
use Rattle.bcommand.specs.CommandLine.{OriginAsked, Question, SourceAsked, from_code, from_made, from_source}
use Rattle.bcommand.specs.CommandLine.{ask, check, compile, count, draw, fix, format, go, go_careful, list, locate}
use Rattle.bcommand.specs.CommandLine.{locate_code, try_out, verify, map as layout, run, show, tell_names, trace, port}
use Rattle.bcommand.specs.declared.job.Care.TheVariants as care
use Rattle.bcommand.specs.declared.job.Rows.TheVariants as which
use Rattle.bsources.specs.Files.{Files, NamedText, followed}
use Rattle.bcore.specs.Shelves.{Holdings}
use Rattle.bcli.specs.Explains.{LocatesAndExplains, fault_explained, letters_meaning}
use Rattle.bcli.specs.Tries.{Tries, next_text}
use Rattle.bcore.specs.Serves.{CompilesJoined, Reads, ReadsLibs, compiling, no_file_line, whole}
use Rattle.bcli.specs.Serves.{Answers, AnswersOf, Does, OnOrigin, files_read, form_of, origin_of, style_of}
use Rattle.bcli.specs.Serves.{telling_ends, traced_rows}

-- findings and counts for an editor, and for people
forms_asked : map form_of (true ∷ false ∷ []) ≡ forms.Json ∷ forms.Text ∷ []
forms_asked = refl

styles_asked : map style_of (true ∷ false ∷ []) ≡ styles.Json ∷ styles.Table ∷ []
styles_asked = refl

-- the steps from a number on, and the last ones
traced_asked : map traced_rows (which.From 3 ∷ which.Last 3 ∷ []) ≡ traced.From 3 ∷ traced.Last 3 ∷ []
traced_asked = refl

-- what comes next after each status, where the source has no fault
next_of_runs : map (next_text 9 0) (0 ∷ 1 ∷ 127 ∷ 130 ∷ 131 ∷ 132 ∷ 133 ∷ 134 ∷ [])
    ≡ codes "next: no finding; b show in place of b try, with > run.html, shows each step\n"
    ∷ codes "next: no finding; the status is the one that the program gave to exit\n"
    ∷ codes "next: no finding; the status is the one that the program gave to exit\n"
    ∷ codes "next: b show --careful in place of b try, with > run.html, shows what led there\n"
    ∷ codes "next: b count in place of b try shows which lines take so many steps\n"
    ∷ codes "next: write a function main, with which a run begins\n"
    ∷ [] ∷ [] ∷ []
next_of_runs = refl

-- and where it has one, or could not be checked
next_of_checks : map (λ status. next_text 9 status status) (1 ∷ 132 ∷ 133 ∷ 134 ∷ [])
    ≡ codes "next: do what stands after fix, and try it again\n"
    ∷ codes "next: do what stands after fix, and try it again\n"
    ∷ [] ∷ [] ∷ []
next_of_checks = refl

-- A page has a limit of steps, which a run may lack.
next_without_limit : map (next_text 18446744073709551615 0) (0 ∷ 130 ∷ [])
    ≡ codes "next: no finding; b show in place of b try --no-limit, with > run.html, shows each step\n"
    ∷ codes "next: b show --careful in place of b try --no-limit, with > run.html, shows what led there\n" ∷ []
next_without_limit = refl

-- what is told of a fault by `go --where`, and of what doesn't load
abbrev of_letters : Letters → List ℕ
of_letters it =
    fault_explained (Source editions.Two) (why.Faulty (record { letters = it; about = about.Nothing; line = 1 }))

fault_told_so : of_letters letters.Syntax
    ≡ codes "  means: a token that can't be there\nnext: b check in place of b go --where shows the place, and a fix\n"
fault_told_so = refl

letters_told : map letters_meaning
    (letters.OpenComment ∷ letters.Character ∷ letters.LongName ∷ letters.Constant ∷ letters.Syntax
    ∷ letters.Redeclared ∷ letters.NotLvalue ∷ letters.TooManyNames ∷ letters.TooManyCases ∷ letters.Undefined
    ∷ letters.TooLarge ∷ [])
    ≡ codes "a comment without an end" ∷ codes "a byte that begins no token"
    ∷ codes "a name of more than eight characters" ∷ codes "a wrong number, character constant or string"
    ∷ codes "a token that can't be there" ∷ codes "a name or a case that is there already"
    ∷ codes "an operand that must be an lvalue and isn't" ∷ codes "the 129th name of a function"
    ∷ codes "the 257th case of a function" ∷ codes "a name that is neither declared nor a label"
    ∷ codes "a definition past a limit of size" ∷ []
letters_told = refl

unloaded_told : map (λ f. fault_explained (Source editions.Two) (why.Unloaded f))
    (load.Duplicate (codes "f") ∷ load.TooLarge ∷ load.Undefined (codes "f") ∷ load.NoMain ∷ [])
    ≡ codes "  means: a name is defined twice\nnext: b check in place of b go --where tells more\n"
    ∷ codes "  means: there are too many data or labels\nnext: b check in place of b go --where tells more\n"
    ∷ codes "  means: a name isn't defined\nnext: b check in place of b go --where tells more\n"
    ∷ codes "  means: there is no function main\nnext: write a function main, with which a run begins\n" ∷ []
unloaded_told = refl

-- the same of a code text
code_untold : map (fault_explained (Code (record { code = []; lines = None; source = None; names = None })))
    (why.Unread 3 ∷ why.Unloaded (load.Duplicate (codes "f")) ∷ why.Unloaded load.TooLarge
    ∷ why.Unloaded (load.Undefined (codes "f")) ∷ why.Unloaded load.NoMain ∷ why.Unlined 4 line_wanted.End ∷ [])
    ≡ codes "  means: no code text goes on with this line\nnext: b run --where of the code text tells more\n"
    ∷ codes "  means: a name is defined twice\nnext: b run --where of the code text tells more\n"
    ∷ codes "  means: there are too many data or labels\nnext: b run --where of the code text tells more\n"
    ∷ codes "  means: a name isn't defined\nnext: b run --where of the code text tells more\n"
    ∷ codes "  means: there is no function main\nnext: write a function main, with which a run begins\n" ∷ [] ∷ []
code_untold = refl

-- a file that can't be read is told by its own name
no_file_told : no_file_line (codes "l.b") ≡ codes "error: the file 'l.b' can't be read\n"
no_file_told = refl

-- two files that follow, each with its name, its bytes and its lines
abbrev two : List NamedText
two = record { name = codes "l.b"; text = codes "a\nb" } ∷ record { name = codes "m.b"; text = [] } ∷ []

followed_two : followed two ≡ record {
  text = codes "\na\nb\n";
  files = record { name = codes "l.b"; lines = 2 } ∷ record { name = codes "m.b"; lines = 1 } ∷ [];
}
followed_two = refl

-- An answer of each tool is one to what was asked, and of the edition, the files, the text and the streams.
module _ (origin : Origin) (edition : Edition) (files : Files) (text : List ℕ) (ends : RunEnds) (status : ℕ) where
  abbrev answered : Question → Type 0
  answered question = AnswersOf origin edition files text question ends status

  listed : (from : OriginAsked) (name : Option Text) → answered (list from name)
      → (ends.input_after ≡ ends.input) × Lists origin text name (telling_ends ends) status
  listed from name a = a

  mapped : (from : OriginAsked) → answered (layout from)
      → (ends.input_after ≡ ends.input) × Maps origin text (telling_ends ends) status
  mapped from a = a

  drawn : (from : OriginAsked) (steps : Option ℕ) → answered (draw from steps) → Draws origin text steps ends status
  drawn from steps a = a

  checked : (for_editor : Bool) → answered (check for_editor)
      → (ends.input_after ≡ ends.input) × (ends.line_after ≡ ends.line) × Checks (record {
        edition = edition;
        form = form_of for_editor;
        files = files;
        source = text;
        out = ends.out;
        out_after = ends.out_after;
        status = status;
      })
  checked for_editor a = a

  mended : answered fix → (ends.input_after ≡ ends.input) × Fixes (record {
    edition = edition;
    files = files;
    source = text;
    out = ends.out;
    out_after = ends.out_after;
    line = ends.line;
    line_after = ends.line_after;
    status = status;
  })
  mended a = a

  named : answered tell_names
      → (ends.input_after ≡ ends.input) × (ends.line_after ≡ ends.line) × Names (record {
        edition = edition;
        files = files;
        source = text;
        out = ends.out;
        out_after = ends.out_after;
        status = status;
      })
  named a = a

  traced_from : (from : OriginAsked) (steps number : ℕ) (function : Option Text)
      → answered (trace from steps (which.From number) function)
      → Traces origin text steps (traced.From number) files function ends status
  traced_from from steps number function a = a

  traced_last : (from : OriginAsked) (steps most : ℕ) (function : Option Text)
      → answered (trace from steps (which.Last most) function)
      → Traces origin text steps (traced.Last most) files function ends status
  traced_last from steps most function a = a

  located : (from : OriginAsked) (steps : ℕ) → answered (locate from steps)
      → LocatesAndExplains origin text files steps ends status
  located from steps a = a

  gone_carefully : (from : OriginAsked) (steps : ℕ) → answered (go_careful from care.Stays steps)
      → Runs (record { origin = origin; files = files; care = taken.Stays; steps = steps }) text ends status
  gone_carefully from steps a = a

  gone_on : (from : OriginAsked) (steps : ℕ) → answered (go_careful from care.Warns steps)
      → Runs (record { origin = origin; files = files; care = taken.Warns; steps = steps }) text ends status
  gone_on from steps a = a

  gone_for_wraps : (from : OriginAsked) (steps : ℕ) → answered (go_careful from care.Wraps steps)
      → Runs (record { origin = origin; files = files; care = taken.Wraps; steps = steps }) text ends status
  gone_for_wraps from steps a = a

  tried : (steps : ℕ) → answered (try_out steps) → Tries edition files text steps ends status
  tried steps a = a

  counted : (from : OriginAsked) (steps : ℕ) (for_editor : Bool) → answered (count from steps for_editor)
      → Counts (record { origin = origin; steps = steps; files = files; style = style_of for_editor }) text ends status
  counted from steps for_editor a = a

  shown : (from : OriginAsked) (steps number : ℕ) → answered (show from None steps (which.From number) None)
      → Shows origin text
      (record { steps = steps; which = traced.From number; files = files; given = []; finding = None }) ends status
  shown from steps number a = a

  shown_given : (from : OriginAsked) (steps most : ℕ) (given : Text)
      → answered (show from None steps (which.Last most) (Some given))
      → (ends.input_after ≡ ends.input) × (after : Unread) × Shows origin text
      (record { steps = steps; which = traced.Last most; files = files; given = given; finding = None })
      (record ends { input = unread given; input_after = incoming_of after }) status
  shown_given from steps most given a = a

  shown_carefully : (from : OriginAsked) (steps most : ℕ)
      → answered (show from (Some care.Stays) steps (which.Last most) None)
      → ShowsCarefully taken.Stays origin text
      (record { steps = steps; which = traced.Last most; files = files; given = []; finding = None }) ends status
  shown_carefully from steps most a = a

  shown_for_wraps : (from : OriginAsked) (steps number : ℕ) (given : Text)
      → answered (show from (Some care.Wraps) steps (which.From number) (Some given))
      → (ends.input_after ≡ ends.input) × (after : Unread) × ShowsCarefully taken.Wraps origin text
      (record { steps = steps; which = traced.From number; files = files; given = given; finding = None })
      (record ends { input = unread given; input_after = incoming_of after }) status
  shown_for_wraps from steps number given a = a

  formatted : (is_check : Bool) → answered (format is_check)
      → (ends.input_after ≡ ends.input) × Formats (record {
        edition = edition;
        source = text;
        is_check = is_check;
        out = ends.out;
        out_after = ends.out_after;
        line = ends.line;
        line_after = ends.line_after;
        status = status;
      })
  formatted is_check a = a

  ported : answered port → (ends.input_after ≡ ends.input) × Ports (record {
    edition = edition;
    files = files;
    source = text;
    out = ends.out;
    out_after = ends.out_after;
    line = ends.line;
    line_after = ends.line_after;
    status = status;
  })
  ported a = a

-- what each question asks a program to be read from
origins_asked : (from : OriginAsked) → map origin_of
    (list from None ∷ trace from 3 (which.Last 2) None ∷ count from 3 true ∷ layout from ∷ draw from None
    ∷ locate from 3 ∷ go_careful from care.Warns 3 ∷ show from None 3 (which.From 1) None ∷ check true ∷ fix
    ∷ tell_names ∷ try_out 3 ∷ format true ∷ port ∷ [])
    ≡ from ∷ from ∷ from ∷ from ∷ from ∷ from ∷ from ∷ from ∷ from_source ∷ from_source ∷ from_source ∷ from_source
    ∷ from_source ∷ from_source ∷ []
origins_asked from = refl

-- What the shelf holds under the names that were asked for is compiled, run or told of, in the edition and for the
-- steps that were asked for.
module _ (shelf : Holdings) (source : SourceAsked) (edition : Edition) (steps : ℕ) (ends : RunEnds) (status : ℕ) where
  input_compiled : Does shelf (compile edition []) ends status
      → Compiles (compiling edition ends.input ends.input_after ends status)
      × CompileHeadline (compiling edition ends.input ends.input_after ends status)
  input_compiled d = d

  libs_compiled : (lib : Text) (r : ReadsLibs shelf (lib ∷ []))
      → CompilesJoined edition (followed r.texts).text ends status → Does shelf (compile edition (lib ∷ [])) ends status
  libs_compiled lib r c = inr (r, c)

  code_run : (file : Text) (text : List ℕ) → shelf.holds file text → RunsText steps text ends status
      → Does shelf (run file steps) ends status
  code_run file text held r = inr (text, held, r)

  code_located : (file : Text) (text : List ℕ) → shelf.holds file text → LocatesCode steps text ends status
      → Does shelf (locate_code file steps) ends status
  code_located file text held l = inr (text, held, l)

  code_verified : (file : Text) (text : List ℕ) → shelf.holds file text → VerifiesText text (telling_ends ends) status
      → ends.input_after ≡ ends.input → Does shelf (verify file) ends status
  code_verified file text held v unread = inr (text, held, v, unread)

  source_run : (r : Reads shelf source) (following : Unread)
      → GoesOff source.edition steps (unread (whole r)) (incoming_of following) ends status
      → Headline source.edition steps (unread (whole r)) (incoming_of following) ends status
      → Does shelf (go source steps) ends status
  source_run r following g h = inr (inr (r, following, g, h))

  source_told : (r : Reads shelf source) (question : Question)
      → Answers shelf source.edition (files_read r) (whole r) question ends status
      → Does shelf (ask source question) ends status
  source_told r question a = inr (inr (r, a))

  -- of a source, of a code text in its place, and of one in another file
  module _ (text : List ℕ) (does : Origin → RunEnds → ℕ → Type 0) where
    of_source : OnOrigin shelf edition text from_source does ends status → does (Source edition) ends status
    of_source d = d

    of_code : OnOrigin shelf edition text from_code does ends status
        → does (Code (record { code = text; lines = None; source = None; names = None })) ends status
    of_code d = d

    of_made : (made lined : Text) (code lines : List ℕ) → shelf.holds made code → shelf.holds lined lines
        → does (Code (record { code = code; lines = Some lines; source = Some text; names = None })) ends status
        → OnOrigin shelf edition text (from_made made lined None) does ends status
    of_made made lined code lines held held_too d = inr (code, held, inr (lines, held_too, d))

    of_named : (made lined named : Text) (code lines names : List ℕ) → shelf.holds made code → shelf.holds lined lines
        → shelf.holds named names
        → does (Code (record { code = code; lines = Some lines; source = Some text; names = Some names })) ends status
        → OnOrigin shelf edition text (from_made made lined (Some named)) does ends status
    of_named made lined named code lines names held held_too held_last d =
        inr (code, held, inr (lines, held_too, inr (names, held_last, d)))
