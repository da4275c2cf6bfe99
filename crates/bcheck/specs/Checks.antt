-- Promise: what is written of a source that is checked.
use Rattle.std.specs.Prelude.{◌≡◌, ℕ, ◌+◌, ◌<◌, ◌==◌, nat_lt, not, Bool, true, false, IsTrue, if◌then◌else◌}
use Rattle.std.specs.Prelude.{List, [], ◌∷◌, ◌++◌, ◌⊎◌, codes, decimal, length, map, min, replicate, Option, Some, None}
use Rattle.std.specs.Prelude.{◌-◌, ◌&&◌, ◌≤◌, drop, nat_le, take, unwrap_or}
use Rattle.std.specs.Int.{is_in_range}
use Rattle.std.specs.List.{All, AllZip, flat_map, list_all}
use Rattle.bword.specs.declared.edition.Edition.{Edition}
use Rattle.bword.specs.ByteEnds.{Outgoing, most}
use Rattle.bword.specs.Words.{same_name}
use Rattle.blang.specs.Cut.{tokens_from, placed, line_number_after}
use Rattle.blang.specs.declared.token.About.{About}
use Rattle.blang.specs.declared.token.About.TheVariants as about
use Rattle.blang.specs.declared.token.Letters.{Letters}
use Rattle.blang.specs.declared.token.Letters.TheVariants as letters
use Rattle.blang.specs.declared.token.Placed.{Placed}
use Rattle.blang.specs.declared.token.Token.{Token}
use Rattle.blang.specs.declared.token.Token.TheVariants as token
use Rattle.blang.specs.declared.token.Diagnostic.{Diagnostic}
use Rattle.blang.specs.Code.{code_of}
use Rattle.blang.specs.declared.code.Definition.{Definition}
use Rattle.blang.specs.Compiles.{Compilation, CompilesTo, letters_text, line_of}
use Rattle.blang.specs.Layout.{load_fault}
use Rattle.blang.specs.declared.run.LoadFault.{LoadFault}
use Rattle.blang.specs.declared.run.LoadFault.TheVariants as fault
use Rattle.blang.specs.declared.status.TheConstants.{DONE, FAULT, REFUSED, MEMORY}
use Rattle.btools.specs.Programs.{load_line}
use Rattle.btools.specs.Quoting.{file_text, json_text}
use Rattle.blang.specs.Reports.{Reported}
use Rattle.bsources.specs.Files.{Files, Line, own_line}
use Rattle.bcheck.specs.Sections.{Section, StopsEach, at_fault, sections}
use Rattle.bcheck.specs.Tokens.{has_token_on, is_in_token}
use Rattle.bplaces.specs.Columns.{column_after}
use Rattle.bplaces.specs.Units.{unit_column}
use Rattle.bcheck.specs.RuleWarnings.{TellsWarnings}
use Rattle.bcheck.specs.UndefinedNames.{IsAtName, Tells, name_in, told_subjects}
use Rattle.bcheck.specs.declared.mention.Subject.{Subject}
use Rattle.bcheck.specs.declared.finding.Severity.{Severity}
use Rattle.bcheck.specs.declared.finding.Severity.TheVariants as severity
use Rattle.bcheck.specs.declared.finding.TheConstants.{MOST_FINDINGS}
use Rattle.bcheck.specs.declared.form.FindingForm.{FindingForm}
use Rattle.bcheck.specs.declared.form.FindingForm.TheVariants as form
use Rattle.bcheck.specs.declared.verdict.Verdict.{Verdict}
use Rattle.bcheck.specs.declared.verdict.Verdict.TheVariants as verdict

-- the line and the status of code that doesn't load; a program without a function main is no fault
abbrev pub load_told : LoadFault → List ℕ × ℕ
load_told fault.NoMain = ([], DONE)
load_told f = (unwrap_or (load_line f) [], REFUSED)

-- the line and the status of a source with this diagnostic, or, without one, of code with this fault
abbrev pub told_first : Option Diagnostic → Option LoadFault → List ℕ × ℕ
told_first (Some diagnostic) fault = (line_of diagnostic, FAULT)
told_first None (Some f) = load_told f
told_first None None = ([], DONE)

abbrev pub verdict_line : Verdict → List ℕ
verdict_line verdict.Clean = []
verdict_line (verdict.Faulty line d) = line.bytes
verdict_line (verdict.Unloaded f) = unwrap_or (load_line f) []

abbrev pub status_told : Verdict → ℕ
status_told verdict.Clean = DONE
status_told (verdict.Faulty line d) = FAULT
status_told (verdict.Unloaded f) = REFUSED

-- a source in an edition, and its outcome: a diagnostic, and the definitions of its code
pub record Outcome : Type 0 where
  pub edition : Edition
  pub source : List ℕ
  pub stop : Option Diagnostic
  pub definitions : List Definition

abbrev pub outcome_of : Edition → List ℕ → Option Diagnostic → List Definition → Outcome
outcome_of edition source stop ds = record { edition = edition; source = source; stop = stop; definitions = ds }

-- the first fault of loading the code
abbrev pub fault_in : Outcome → Option LoadFault
fault_in o = load_fault o.definitions

-- for each outcome of a source in an edition
abbrev pub EachOutcome : Edition → List ℕ → (Outcome → Type 0) → Type 0
EachOutcome edition source P =
    (r : Compilation) (g : CompilesTo [] (tokens_from edition 1 source) r)
    → P (outcome_of edition source r.stop (map code_of g.definitions))

abbrev pub Judged : Edition → List ℕ → Verdict → Type 0
Judged edition source v =
    EachOutcome edition source (λ o. (verdict_line v, status_told v) ≡ told_first o.stop (fault_in o))

-- what is found of a source that compiles and whose code loads is a warning, and of any other an error
abbrev pub severity_of : (status : ℕ) → Severity
severity_of status = if status == DONE then severity.Warning else severity.Error

abbrev pub severity_word : Severity → List ℕ
severity_word severity.Error = codes "error"
severity_word severity.Warning = codes "warning"

-- a text on one line: blanks, and letters, digits and signs of ASCII
abbrev pub is_on_line : List ℕ → Bool
is_on_line text = list_all (λ c. is_in_range 32 126 c) text

-- no newline is among the bytes
abbrev pub is_in_line : List ℕ → Bool
is_in_line bytes = list_all (λ b. not (b == 10)) bytes

-- a byte of the source as it is shown, with a blank for a tab, and `?` for what can't be printed
abbrev pub shown_byte : ℕ → ℕ
shown_byte b = if b == 9 then 32 else (if is_in_range 32 126 b then b else 63)

abbrev pub shown_text : ℕ → List ℕ
shown_text b = shown_byte b ∷ []

-- A second place, between these bytes of the source.
pub record Second (source : List ℕ) : Type 0 where
  pub before : List ℕ
  pub after : List ℕ
  pub split : source ≡ before ++ after

-- An edit within a line of a source, which puts a text in the place of some bytes. Of the line with it some bytes are
-- shown before the text, and some after it.
pub record EditParts (source : List ℕ) : Type 0 where
  pub before : List ℕ
  pub left : List ℕ
  pub old : List ℕ
  pub right : List ℕ
  pub after : List ℕ
  pub split : source ≡ (before ++ left) ++ (old ++ (right ++ after))
  pub from_line : IsTrue (nat_lt (length left) (column_after 1 (before ++ left)))
  pub in_line : IsTrue (is_in_line old && is_in_line right)
  pub text : List ℕ
  pub on_line : IsTrue (is_on_line text)
  pub differs : IsTrue (not (same_name text old))

-- the source with an edit
abbrev pub mended : {source : List ℕ} → EditParts source → List ℕ
mended e = (e.before ++ e.left) ++ (e.text ++ (e.right ++ e.after))

-- A finding. It stands at a place of the source, of whose line it shows some bytes before the place, and some from it
-- on. A sentence and a fix are told of it, at most three edits, of which each mends it, and for editors a code, and the
-- second place of which it speaks.
pub record FindingParts (source : List ℕ) : Type 0 where
  pub before : List ℕ
  pub left : List ℕ
  pub right : List ℕ
  pub after : List ℕ
  pub split : source ≡ (before ++ left) ++ (right ++ after)
  pub from_line : IsTrue (nat_lt (length left) (column_after 1 (before ++ left)))
  pub in_line : IsTrue (is_in_line right)
  pub marks : ℕ
  pub marked : IsTrue (nat_lt 0 marks)
  pub code : List ℕ
  pub sentence : List ℕ
  pub fix : List ℕ
  pub on_lines : IsTrue (list_all is_on_line (code ∷ sentence ∷ fix ∷ []))
  pub second : Option (Second source)
  pub edits : List (EditParts source)
  pub few : IsTrue (nat_le (length edits) 3)

-- the line in the source and the column of its place, from 1
abbrev pub finding_line : {source : List ℕ} → FindingParts source → ℕ
finding_line p = line_number_after 1 (p.before ++ p.left)

abbrev pub finding_column : {source : List ℕ} → FindingParts source → ℕ
finding_column p = column_after 1 (p.before ++ p.left)

-- the file in which it stands, and the line there
abbrev pub finding_at : {source : List ℕ} → Files → FindingParts source → Line
finding_at files p = own_line files (finding_line p)

-- the piece of its line, and the marks below its place
abbrev pub finding_shown : {source : List ℕ} → FindingParts source → List ℕ
finding_shown p = flat_map shown_text p.left ++ flat_map shown_text p.right

abbrev pub finding_mark : {source : List ℕ} → FindingParts source → List ℕ
finding_mark p = replicate (length p.left) 32 ++ replicate p.marks 94

-- the file of a second place, which editors are told where the source has several files
abbrev pub is_of_several : Files → Bool
is_of_several files = nat_lt 0 (length files.rest)

abbrev pub file_member : (is_told : Bool) → (file : List ℕ) → List ℕ
file_member is_told file = if is_told then codes "\"file\":" ++ (json_text file ++ codes ",") else []

-- then its line in that file, and its column, in bytes and in units
abbrev pub spot_words : (is_told : Bool) → Line → (column unit : ℕ) → List ℕ
spot_words is_told at column unit =
    codes ",\"related\":{" ++ (file_member is_told at.file ++ (codes "\"line\":" ++ (decimal at.line
    ++ (codes ",\"column\":" ++ (decimal column ++ (codes ",\"utf16_column\":" ++ (decimal unit ++ codes "}")))))))

abbrev pub second_text : {source : List ℕ} → Files → Option (Second source) → List ℕ
second_text files None = []
second_text files (Some s) =
    spot_words (is_of_several files) (own_line files (line_number_after 1 s.before)) (column_after 1 s.before)
    (unit_column s.before s.after)

-- the column after the marks, on the line of its place
abbrev pub finding_end : {source : List ℕ} → FindingParts source → ℕ
finding_end p = min (finding_column p + p.marks) most

-- its column and the one after the marks in units of UTF-16; each mark after the end of the line has one
abbrev pub finding_unit : {source : List ℕ} → FindingParts source → ℕ
finding_unit p = unit_column (p.before ++ p.left) (p.right ++ p.after)

abbrev pub finding_unit_end : {source : List ℕ} → FindingParts source → ℕ
finding_unit_end p =
    min (unit_column ((p.before ++ p.left) ++ take p.marks p.right) (drop p.marks p.right ++ p.after)
    + (p.marks - length p.right)) most

abbrev pub end_words : (end unit unit_end : ℕ) → List ℕ
end_words end unit unit_end =
    codes ",\"end\":" ++ (decimal end ++ (codes ",\"utf16_column\":" ++ (decimal unit
    ++ (codes ",\"utf16_end\":" ++ decimal unit_end))))

abbrev pub ends_text : {source : List ℕ} → FindingParts source → List ℕ
ends_text p = end_words (finding_end p) (finding_unit p) (finding_unit_end p)

-- an edit for an editor: the place that it changes, in columns and in bytes of the source, and the text for it
abbrev pub edit_words : (is_told : Bool) → Line → (column end unit unit_end offset count : ℕ) → (text : List ℕ) → List ℕ
edit_words is_told at column end unit unit_end offset count text =
    codes "{" ++ (file_member is_told at.file ++ (codes "\"line\":" ++ (decimal at.line ++ (codes ",\"column\":"
    ++ (decimal column ++ (end_words end unit unit_end ++ (codes ",\"offset\":" ++ (decimal offset
    ++ (codes ",\"length\":" ++ (decimal count ++ (codes ",\"text\":" ++ (json_text text ++ codes "}"))))))))))))

-- the file in which it stands, and the line there
abbrev pub edit_at : {source : List ℕ} → Files → EditParts source → Line
edit_at files e = own_line files (line_number_after 1 (e.before ++ e.left))

abbrev pub edit_object : {source : List ℕ} → Files → EditParts source → List ℕ
edit_object files e =
    let here = e.before ++ e.left in
    edit_words (is_of_several files) (edit_at files e) (column_after 1 here)
    (min (column_after 1 here + length e.old) most) (unit_column here (e.old ++ (e.right ++ e.after)))
    (unit_column (here ++ e.old) (e.right ++ e.after)) (length here) (length e.old) e.text

-- each edit by such a text, if there are any
abbrev pub edits_text : {A : Type 0} → (A → List ℕ) → List A → List ℕ
edits_text object [] = []
edits_text object (e ∷ es) =
    codes ",\"edits\":[" ++ (object e ++ (flat_map (λ x. codes "," ++ object x) es ++ codes "]"))

-- whether a line goes on with these bytes, and the mark for those that aren't shown
abbrev pub goes_on : List ℕ → Bool
goes_on [] = false
goes_on (b ∷ bs) = not (b == 10)

abbrev pub cut_mark : (is_cut : Bool) → List ℕ
cut_mark is_cut = if is_cut then codes " .." else []

-- the line with an edit, for people
abbrev pub mended_words : (line : ℕ) → (left text right : List ℕ) → (is_cut : Bool) → List ℕ
mended_words line left text right is_cut =
    codes "\n  line " ++ (decimal line ++ (codes " mended: " ++ (flat_map shown_text left ++ (text
    ++ (flat_map shown_text right ++ cut_mark is_cut)))))

abbrev pub mended_line : {source : List ℕ} → Files → EditParts source → List ℕ
mended_line files e = mended_words (edit_at files e).line e.left e.text e.right (goes_on e.after)

-- the line that tells of an edit that was made: its place, and the line with it
abbrev pub change_words : Line → (column : ℕ) → (left text right : List ℕ) → (is_cut : Bool) → List ℕ
change_words at column left text right is_cut =
    file_text at.file ++ (codes ":" ++ (decimal at.line ++ (codes ":" ++ (decimal column ++ (codes ": mended: "
    ++ (flat_map shown_text left ++ (text ++ (flat_map shown_text right ++ (cut_mark is_cut ++ codes "\n")))))))))

abbrev pub change_line : {source : List ℕ} → Files → EditParts source → List ℕ
change_line files e =
    change_words (edit_at files e) (column_after 1 (e.before ++ e.left)) e.left e.text e.right (goes_on e.after)

abbrev pub mended_lines : {source : List ℕ} → Files → FindingParts source → List ℕ
mended_lines files p = flat_map (mended_line files) p.edits

-- the fix, where the marks end, the second place, if there is one, and the edits
abbrev pub fix_and_places : {source : List ℕ} → Files → FindingParts source → List ℕ
fix_and_places files p =
    json_text p.fix ++ (ends_text p ++ (second_text files p.second ++ edits_text (edit_object files) p.edits))

abbrev pub finding_words : {source : List ℕ} → FindingForm → Files → FindingParts source → List ℕ
finding_words form.Text files p =
    p.sentence ++ codes "\n    " ++ finding_shown p ++ codes "\n    " ++ finding_mark p ++ mended_lines files p
    ++ codes "\n  fix: " ++ p.fix
finding_words form.Json files p =
    json_text p.code ++ codes ",\"message\":" ++ json_text p.sentence ++ codes ",\"fix\":" ++ fix_and_places files p

-- A finding begins with the name of its file: for people on one line, for editors as the first member of an object.
abbrev pub finding_start : FindingForm → (file : List ℕ) → List ℕ
finding_start form.Text file = file_text file ++ codes ":"
finding_start form.Json file = codes "{\"file\":" ++ json_text file ++ codes ",\"line\":"

-- Then come a line of that file, a column and the severity.
abbrev pub finding_head : FindingForm → Severity → (file : List ℕ) → (line column : ℕ) → List ℕ
finding_head form.Text s file line column =
    finding_start form.Text file ++ decimal line ++ codes ":" ++ decimal column ++ codes ": " ++ severity_word s
    ++ codes ": "
finding_head form.Json s file line column =
    finding_start form.Json file ++ decimal line ++ codes ",\"column\":" ++ decimal column
    ++ codes ",\"severity\":\"" ++ severity_word s ++ codes "\",\"code\":"

-- Its words follow, and the end of the line.
abbrev pub finding_text : {source : List ℕ} → FindingForm → Severity → Files → FindingParts source → List ℕ
finding_text form.Text s files p =
    finding_head form.Text s (finding_at files p).file (finding_at files p).line (finding_column p)
    ++ finding_words form.Text files p ++ codes "\n"
finding_text form.Json s files p =
    finding_head form.Json s (finding_at files p).file (finding_at files p).line (finding_column p)
    ++ finding_words form.Json files p ++ codes "}\n"

-- the text of these findings of a source with this status
abbrev pub findings_text : {source : List ℕ} → FindingForm → (status : ℕ) → Files → List (FindingParts source) → List ℕ
findings_text form status files findings = flat_map (finding_text form (severity_of status) files) findings

-- the keyword that a diagnostic is about, where its code has it
abbrev pub code_keyword : Letters → About → List ℕ
code_keyword letters.Syntax about.Case = codes " case"
code_keyword letters.Syntax about.Break = codes " break"
code_keyword letters.Syntax about.Default = codes " default"
code_keyword letters.Redeclared about.Case = codes " case"
code_keyword letters.Redeclared about.Default = codes " default"
code_keyword _ _ = []

-- by which code a diagnostic is known
abbrev pub diagnostic_code : Diagnostic → List ℕ
diagnostic_code d = letters_text d.letters ++ code_keyword d.letters d.about

-- no token comes but the end: these are blanks and comments
abbrev pub IsOver : Edition → List ℕ → Type 0
IsOver edition rest = (line : ℕ) × (none : List Placed) × (tokens_from edition 1 rest ≡ placed token.End line ∷ none)

-- a place between these bytes is on the line, or on one before it where no token comes any more
abbrev pub StandsOn : Edition → (line : ℕ) → (before rest : List ℕ) → Type 0
StandsOn edition line before rest =
    (line_number_after 1 before ≡ line) ⊎ ((line_number_after 1 before < line) × IsOver edition rest)

-- a place between these bytes is in a token of the line, unless no token stands there, or none comes any more
abbrev pub IsAtToken : Edition → (line : ℕ) → (before rest : List ℕ) → Type 0
IsAtToken edition line before rest =
    (is_in_token edition line before rest ≡ true) ⊎ (has_token_on edition line (before ++ rest) ≡ false)
    ⊎ IsOver edition rest

-- An error has the code of the diagnostic and stands on its line, in one of the tokens there, or it has the code of the
-- fault of loading.
abbrev pub Reason : Edition → Option Diagnostic → Option LoadFault → (code before rest : List ℕ) → Type 0
Reason edition (Some d) f code before rest =
    (code ≡ diagnostic_code d) × StandsOn edition d.line before rest × IsAtToken edition d.line before rest
Reason edition None (Some fault.TooLarge) code before rest = code ≡ codes "load 2"
Reason edition None (Some (fault.Undefined name)) code before rest = code ≡ codes "load 3"
Reason edition None f code before rest = Unit {0}

abbrev pub IsReason : (o : Outcome) → FindingParts o.source → Type 0
IsReason o p = Reason o.edition o.stop (fault_in o) p.code (p.before ++ p.left) (p.right ++ p.after)

-- a diagnostic with an edit is none, or one on a later line than before
abbrev pub IsLater : (new old : Option Diagnostic) → Type 0
IsLater None old = Unit {0}
IsLater (Some e) None = ⊥
IsLater (Some e) (Some d) = d.line < e.line

-- the status of a source that comes to this
abbrev pub outcome_status : Outcome → ℕ
outcome_status o = (told_first o.stop (fault_in o)).1

-- a source in two parts, with a newline between them
abbrev pub with_newline : (before rest : List ℕ) → List ℕ
with_newline before rest = before ++ 10 ∷ rest

-- the tokens of a source, without their lines
abbrev pub tokens_in : Edition → List ℕ → List Token
tokens_in edition source = map (λ p. p.token) (tokens_from edition 1 source)

-- a newline between both parts of a source changes no token: it stands within none but a comment
abbrev pub ChangesNoToken : Edition → (before rest : List ℕ) → Type 0
ChangesNoToken edition before rest =
    tokens_in edition (with_newline before rest) ≡ tokens_in edition (before ++ rest)

-- there is a fault, on this line or before it
abbrev pub StopsBy : (line : ℕ) → Option Diagnostic → Type 0
StopsBy line None = ⊥
StopsBy line (Some d) = d.line ≤ line

-- there is none, or the first one is after this line
abbrev pub StopsPast : (line : ℕ) → Option Diagnostic → Type 0
StopsPast line None = Unit {0}
StopsPast line (Some d) = line < d.line

-- Two sources end alike. A newline before that end, which changes no token of either, shows that the first fault of the
-- old one is before it, and that of the new one after it.
pub record GoesFarther (edition : Edition) (new old : List ℕ) : Type 0 where
  pub before : List ℕ
  pub changed : List ℕ
  pub rest : List ℕ
  pub old_is : old ≡ before ++ rest
  pub new_is : new ≡ changed ++ rest
  pub old_apart : ChangesNoToken edition before rest
  pub new_apart : ChangesNoToken edition changed rest
  pub by : EachOutcome edition (with_newline before rest) (λ o. StopsBy (line_number_after 1 before) o.stop)
  pub past : EachOutcome edition (with_newline changed rest) (λ o. StopsPast (line_number_after 1 changed) o.stop)

-- of the names that are told as undefined fewer are with an edit
abbrev pub HasFewerNames : (new old : Outcome) → Type 0
HasFewerNames new old = length (told_subjects new.definitions) < length (told_subjects old.definitions)

-- What compiled and loaded does so with an edit. A fault of the source is gone, or the first one stands on a later
-- line, or later in its line. What didn't load does so, or has fewer names that nothing defines.
abbrev pub IsBetter : (new old : Outcome) → Type 0
IsBetter new old =
    (IsLater new.stop old.stop ⊎ GoesFarther old.edition new.source old.source)
    × (outcome_status old ≡ DONE → outcome_status new ≡ DONE)
    × (outcome_status old ≡ REFUSED → (outcome_status new ≡ DONE) ⊎ HasFewerNames new old)

-- An edit mends a source that comes to this: it was tried.
abbrev pub Mends : {source : List ℕ} → Outcome → EditParts source → Type 0
Mends o e = EachOutcome o.edition (mended e) (λ new. IsBetter new o)

abbrev pub IsMended : (o : Outcome) → FindingParts o.source → Type 0
IsMended o p = All (Mends o) p.edits

-- All is told: one thing of a diagnostic and of data that are too many, and each name that nothing defines.
abbrev pub IsWhole : {A : Type 0} → (Subject → A → Type 0) → Option Diagnostic → Option LoadFault → List Definition
    → (told : List A) → Type 0
IsWhole On (Some d) f ds told = length told ≡ 1
IsWhole On None (Some (fault.Undefined name)) ds told = AllZip On (told_subjects ds) told
IsWhole On None (Some fault.NoMain) ds told = Unit {0}
IsWhole On None (Some f) ds told = length told ≡ 1
IsWhole On None None ds told = Unit {0}

-- What is told of an outcome is all.
abbrev pub TellsAll : {A : Type 0} → (Subject → A → Type 0) → Outcome → (told : List A) → Type 0
TellsAll On o told = IsWhole On o.stop (fault_in o) o.definitions told

-- The sentence of a finding tells this, and the finding stands at the name in it.
abbrev pub Says : {source : List ℕ} → Subject → FindingParts source → Type 0
Says subject p = Tells subject p.sentence × IsAtName (name_in subject) (p.before ++ p.left) (p.right ++ p.after)

-- An error of this code after these bytes is on the fault that a section has alone, on its line and in a token there.
abbrev pub IsOfSection : Edition → Section × Diagnostic → (code before : List ℕ) → Type 0
IsOfSection edition (s, d) code before =
    (left : List ℕ) × (right : List ℕ) × (s.text ≡ left ++ right) × (before ≡ s.before ++ left)
    × Reason edition (Some d) None code left right

abbrev pub TellsSection : {source : List ℕ} → Edition → Section × Diagnostic → FindingParts source → Type 0
TellsSection edition fault p = IsOfSection edition fault p.code (p.before ++ p.left)

-- Of a source with a diagnostic, this is told of each section after its line that is at fault alone, up to so many.
abbrev pub IsOfSections : {A : Type 0} → (Section × Diagnostic → A → Type 0) → Edition → (line : ℕ) → (source : List ℕ)
    → (told : List A) → Type 0
IsOfSections Tells edition line source told =
    (stops : List (Option Diagnostic)) × StopsEach edition (sections edition line source) stops
    × AllZip Tells (take (MOST_FINDINGS - 1) (at_fault (sections edition line source) stops)) told

-- What is told after a diagnostic; else nothing.
abbrev pub IsFurther : {source : List ℕ} → Edition → Option Diagnostic → (further : List (FindingParts source)) → Type 0
IsFurther edition None further = further ≡ []
IsFurther {source} edition (Some d) further = IsOfSections (TellsSection edition) edition d.line source further

-- the bytes before a finding, and its code
abbrev pub told_at : {source : List ℕ} → FindingParts source → List ℕ × List ℕ
told_at p = (p.before ++ p.left, p.code)

-- The text of such findings of a source with this status, and of those that are told after a diagnostic. Where nothing
-- is wrong they tell what the rules say.
abbrev pub AreFindings : FindingForm → Outcome → (status : ℕ) → Files → (text : List ℕ) → Type 0
AreFindings form o status files text =
    (findings : List (FindingParts o.source)) × TellsAll Says o findings × All (IsReason o) findings
    × (further : List (FindingParts o.source)) × IsFurther o.edition o.stop further
    × (text ≡ findings_text form status files (findings ++ further)) × All (IsMended o) (findings ++ further)
    × (status ≡ DONE → TellsWarnings o.edition files o.source (map told_at findings))

-- A text and then findings were told with this status; or memory was refused, and nothing was written.
pub data TellsFirst (form : FindingForm) (o : Outcome) (files : Files) (first : List ℕ) (status : ℕ)
    (old new : Outgoing) (result : ℕ) : Type 0 where
  told : (more : List ℕ) → AreFindings form o status files more → Reported (first ++ more) status old new result
      → TellsFirst form o files first status old new result
  no_memory : new ≡ old → result ≡ MEMORY → TellsFirst form o files first status old new result

-- the files of a source, the source, the output, before and after, and the status
pub record Check : Type 0 where
  pub edition : Edition
  pub form : FindingForm
  pub files : Files
  pub source : List ℕ
  pub out : Outgoing
  pub out_after : Outgoing
  pub status : ℕ

-- For people the line of the compiler, or of the code that doesn't load, comes first; for editors it is an object's.
abbrev pub shown_in_form : FindingForm → List ℕ → List ℕ
shown_in_form form.Text line = line
shown_in_form form.Json line = []

-- A line, in this form, and then findings were told with this status.
abbrev pub TellsOutcome : Check → Outcome → (List ℕ × ℕ) → Type 0
TellsOutcome c o (line, status) =
    TellsFirst c.form o c.files (shown_in_form c.form line) status c.out c.out_after c.status

-- What is written is the line of the source and then findings, and the status is the source's.
abbrev pub Checks : Check → Type 0
Checks c = EachOutcome c.edition c.source (λ o. TellsOutcome c o (told_first o.stop (fault_in o)))
