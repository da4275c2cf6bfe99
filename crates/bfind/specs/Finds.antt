-- Promise: what is told of a source by rules of its reader: each place where one fits, in the order of the source.
use Rattle.std.specs.Prelude.{◌≡◌, ◌⊎◌, ℕ, zero, suc, ◌+◌, ◌-◌, ◌==◌, ◌&&◌, ◌||◌, Bool, true, false, List, [], ◌∷◌, ◌++◌, codes}
use Rattle.std.specs.Prelude.{decimal, drop, if◌then◌else◌, is_some, length, max, min, nat_le, position, replicate, slice_get, take}
use Rattle.std.specs.Prelude.{Option, Some, None, unwrap_or}
use Rattle.std.specs.List.{flat_map, range_with_len}
use Rattle.std.specs.List.Sorted.{IsNonDecreasingBy, IsPermutation}
use Rattle.bword.specs.ByteEnds.{Outgoing, most}
use Rattle.bword.specs.declared.edition.Edition.{Edition}
use Rattle.blang.specs.Reports.{Reported}
use Rattle.blang.specs.declared.status.TheConstants.{DONE, FAULT, MEMORY, REFUSED}
use Rattle.blang.specs.declared.token.Diagnostic.{Diagnostic}
use Rattle.bsources.specs.Files.{Files, beyond_first, files_shown}
use Rattle.bplaces.specs.Columns.{column_after}
use Rattle.bplaces.specs.Units.{first_unit, units_after}
use Rattle.bplaces.specs.declared.units.UnitPlace.{UnitPlace}
use Rattle.bmatch.specs.declared.noticing.Notice.{Notice}
use Rattle.bmatch.specs.declared.pattern.RuleTable.{RuleTable}
use Rattle.bmatch.specs.declared.tree.TokenPlace.{TokenPlace}
use Rattle.bmatch.specs.declared.tree.Tree.{Tree}
use Rattle.bmatch.specs.Growing.{AreRows}
use Rattle.bmatch.specs.Notices.{notices_by}
use Rattle.blint.specs.SourceTokens.{lexemes_in, token_places, tokens_of}
use Rattle.btools.specs.Programs.{HasFault, IsCodeOf}
use Rattle.btools.specs.Quoting.{file_text, json_text}
use Rattle.bcheck.specs.Checks.{Checks, shown_text}
use Rattle.bcheck.specs.declared.form.FindingForm.{FindingForm}
use Rattle.bcheck.specs.declared.form.FindingForm.TheVariants as form
use Rattle.bfind.specs.declared.looking.Found.{Found}
use Rattle.bfind.specs.declared.own.OwnRules.{OwnRules}
use Rattle.bfind.specs.declared.own.RuleWords.{RuleWords}
use Rattle.bfind.specs.declared.telling.Setting.{Setting}
use Rattle.bfind.specs.declared.telling.Severity.{Severity}
use Rattle.bfind.specs.declared.telling.Severity.TheVariants as severity
use Rattle.bfind.specs.declared.telling.Shown.{Shown}
use Rattle.bfind.specs.declared.telling.Told.{Told}
use Rattle.bfind.specs.declared.telling.TheConstants.{BEFORE_MARK, SHOWN_BYTES}
use Rattle.blang.specs.declared.code.Definition.{Definition}

-- one text after another
abbrev pub joined : List (List ℕ) → List ℕ
joined parts = flat_map (λ part. part) parts

-- the line that tells where a text of rules is wrong, and why
abbrev pub wrong_line : (file : List ℕ) → (line column : ℕ) → (reason : List ℕ) → List ℕ
wrong_line file line column reason =
    joined (file_text file ∷ codes ":" ∷ decimal line ∷ codes ":" ∷ decimal column ∷ codes ": error: " ∷ file_text reason
    ∷ codes "\n" ∷ [])

-- That was told, with status 1; or memory was refused, and nothing was.
abbrev pub IsRefused : (file : List ℕ) → Outgoing → Outgoing → (status : ℕ) → Type 0
IsRefused file line line_after status =
    ((at : ℕ) × (column : ℕ) × (reason : List ℕ)
    × Reported (wrong_line file at column reason) FAULT line line_after status)
    ⊎ ((line_after ≡ line) × (status ≡ MEMORY))

-- The tree of a source: its tokens, each where it stands, and the branches that they make.
pub record IsTreeOf (edition : Edition) (source : List ℕ) (tree : Tree) : Type 0 where
  pub text : tree.text.now ≡ source
  pub lexemes : tree.lexemes.now ≡ lexemes_in (tokens_of edition source)
  pub places : tree.places.now ≡ token_places (tokens_of edition source)
  pub rows : AreRows tree.lexemes.now tree.rows.now

-- the rules as the engine takes them
pub record IsTableOf (own : OwnRules) (table : RuleTable) : Type 0 where
  pub steps : table.steps.now ≡ own.steps.items
  pub claims : table.claims.now ≡ own.claims.items
  pub rules : table.rules.now ≡ own.rules.items

-- These are the places where rules fit in a source, and no others, in the order of its tokens.
pub record AreFound (edition : Edition) (source : List ℕ) (own : OwnRules) (found : Found) : Type 0 where
  pub tree : Tree
  pub is : IsTreeOf edition source tree
  pub table : RuleTable
  pub of_rules : IsTableOf own table
  pub all : IsPermutation (notices_by tree table) found.notices.items
  pub in_order : IsNonDecreasingBy (λ n. n.token) found.notices.items
  pub places : found.places.items ≡ token_places (tokens_of edition source)

-- the same rule at the same token
abbrev pub is_same : Option Notice → Option Notice → Bool
is_same (Some a) (Some b) = a.token == b.token && a.rule == b.rule
is_same a b = false

-- the one before it tells the same
abbrev pub is_told : List Notice → (index : ℕ) → Bool
is_told notices zero = false
is_told notices (suc index) = is_same (slice_get notices index) (slice_get notices (suc index))

-- What is shown of the line of a token: how many bytes before it, and those from it on.
abbrev pub left_length : (column len : ℕ) → ℕ
left_length column len =
    if nat_le len SHOWN_BYTES && nat_le (column - 1) (SHOWN_BYTES - len) then column - 1 else min (column - 1) BEFORE_MARK

abbrev pub line_len : List ℕ → ℕ
line_len bytes = unwrap_or (position (λ b. b == 10) bytes) (length bytes)

abbrev pub line_part : (rest : List ℕ) → (count : ℕ) → List ℕ
line_part rest count =
    let near = take (min (length rest) count) rest in take (line_len near) near

abbrev pub column_of : (source : List ℕ) → (start : ℕ) → ℕ
column_of source start = column_after 1 (take start source)

abbrev pub units_of : (source : List ℕ) → (start : ℕ) → UnitPlace
units_of source start = units_after first_unit (take start source) (drop start source)

abbrev pub left_of : (source : List ℕ) → TokenPlace → List ℕ
left_of source p =
    let before = take p.start source in
    drop (length before - left_length (column_of source p.start) p.len) before

abbrev pub right_of : (source : List ℕ) → TokenPlace → List ℕ
right_of source p =
    line_part (drop p.start source) (SHOWN_BYTES - left_length (column_of source p.start) p.len)

abbrev pub marks_of : (source : List ℕ) → TokenPlace → ℕ
marks_of source p = max (min p.len (length (right_of source p))) 1

-- the column after the marks in units of UTF-16
abbrev pub unit_end_of : (source : List ℕ) → TokenPlace → ℕ
unit_end_of source p =
    let count = min (marks_of source p) (length (right_of source p)) in
    let rest = drop p.start source in
    (units_after (units_of source p.start) (take count rest) (drop count rest)).column

pub record IsShown (source : List ℕ) (p : TokenPlace) (it : Shown) : Type 0 where
  pub line : it.line ≡ p.line
  pub column : it.column ≡ column_of source p.start
  pub left : it.left.now ≡ left_of source p
  pub right : it.right.now ≡ right_of source p
  pub marks : it.marks ≡ marks_of source p
  pub unit : it.unit ≡ (units_of source p.start).column
  pub unit_end : it.unit_end ≡ unit_end_of source p

abbrev pub severity_word : Severity → List ℕ
severity_word severity.Warning = codes "warning"
severity_word severity.Note = codes "note"

-- A place for people: its file, line and column, what is said of it, and its line with marks.
abbrev pub lines_of : (file : List ℕ) → Severity → (line column : ℕ) → (left right : List ℕ) → (marks : ℕ)
    → (message : List ℕ) → List ℕ
lines_of file s line column left right marks message =
    joined (file_text file ∷ codes ":" ∷ decimal line ∷ codes ":" ∷ decimal column ∷ codes ": " ∷ severity_word s
    ∷ codes ": " ∷ file_text message ∷ codes "\n    " ∷ flat_map shown_text left ∷ flat_map shown_text right
    ∷ codes "\n    " ∷ replicate (length left) 32 ∷ replicate marks 94 ∷ codes "\n" ∷ [])

-- the same for an editor, as an object on a line
abbrev pub object_of : (file : List ℕ) → Severity → (line column end unit unit_end : ℕ) → (code message : List ℕ)
    → List ℕ
object_of file s line column end unit unit_end code message =
    joined (codes "{\"file\":" ∷ json_text file ∷ codes ",\"line\":" ∷ decimal line ∷ codes ",\"column\":"
    ∷ decimal column ∷ codes ",\"severity\":\"" ∷ severity_word s ∷ codes "\",\"code\":" ∷ json_text code
    ∷ codes ",\"message\":" ∷ json_text message ∷ codes ",\"fix\":\"\",\"end\":" ∷ decimal end
    ∷ codes ",\"utf16_column\":" ∷ decimal unit ∷ codes ",\"utf16_end\":" ∷ decimal unit_end ∷ codes "}\n" ∷ [])

-- what is the same for all places of a source
pub record Telling : Type 0 where
  pub source : List ℕ
  pub files : Files
  pub form : FindingForm
  pub severity : Severity
  pub words : List RuleWords

-- the same of what is shown
abbrev pub place_lines : Told → List ℕ
place_lines t =
    lines_of t.file.now t.severity t.shown.line t.shown.column t.shown.left.now t.shown.right.now t.shown.marks
    t.words.now.message

abbrev pub place_object : Told → List ℕ
place_object t =
    object_of t.file.now t.severity t.shown.line t.shown.column (min (t.shown.column + t.shown.marks) most) t.shown.unit
    t.shown.unit_end t.words.now.code t.words.now.message

abbrev pub place_text : FindingForm → Telling → TokenPlace → RuleWords → List ℕ
place_text form.Text t p w =
    lines_of t.files.first.name t.severity p.line (column_of t.source p.start) (left_of t.source p) (right_of t.source p)
    (marks_of t.source p) w.message
place_text form.Json t p w =
    let column = column_of t.source p.start in
    object_of t.files.first.name t.severity p.line column (min (column + marks_of t.source p) most)
    (units_of t.source p.start).column (unit_end_of t.source p) w.code w.message

-- only a place in the first file is told
abbrev pub own_text : Telling → TokenPlace → RuleWords → List ℕ
own_text t p w = if is_some (beyond_first t.files p.line) then [] else place_text t.form t p w

abbrev pub text_at : Telling → Option TokenPlace → Option RuleWords → List ℕ
text_at t (Some p) (Some w) = own_text t p w
text_at t p w = []

abbrev pub text_of : Telling → (places : List TokenPlace) → Option Notice → List ℕ
text_of t places None = []
text_of t places (Some n) = text_at t (slice_get places n.token) (slice_get t.words n.rule)

-- each place once for a rule
abbrev pub notice_text : Telling → Found → (index : ℕ) → List ℕ
notice_text t found index =
    if is_told found.notices.items index then [] else text_of t found.places.items (slice_get found.notices.items index)

abbrev pub places_text : Telling → Found → List ℕ
places_text t found = flat_map (notice_text t found) (range_with_len 0 (length found.notices.items))

abbrev pub telling_of : Setting → Telling
telling_of s = record {
  source = s.source.now;
  files = files_shown s.asked.files;
  form = s.asked.form;
  severity = s.severity;
  words = s.words.now;
}

-- The text tells where rules fit in a source.
pub record TellsPlaces (edition : Edition) (form : FindingForm) (files : Files) (severity : Severity) (source : List ℕ)
    (own : OwnRules) (text : List ℕ) : Type 0 where
  pub found : Found
  pub are : AreFound edition source own found
  pub is : text ≡ places_text (record {
    source = source;
    files = files;
    form = form;
    severity = severity;
    words = own.words.items;
  }) found

-- It is told where some rules fit in a source, with the status of its check; or memory was refused.
abbrev pub TellsWarnings : Edition → FindingForm → Files → (source : List ℕ) → (checked : ℕ) → Outgoing → Outgoing
    → (status : ℕ) → Type 0
TellsWarnings edition form files source checked out out_after status =
    ((own : OwnRules) × (text : List ℕ) × TellsPlaces edition form files severity.Warning source own text
    × Reported text checked out out_after status)
    ⊎ ((out_after ≡ out) × (status ≡ MEMORY))

-- this is the status of the check of a source that compiles
abbrev pub tells_more : (checked : ℕ) → Bool
tells_more checked = checked == DONE || checked == REFUSED

-- Nothing more is told of a source with a fault.
abbrev pub TellsWhere : Bool → Edition → FindingForm → Files → (source : List ℕ) → (checked : ℕ) → Outgoing → Outgoing
    → (status : ℕ) → Type 0
TellsWhere true edition form files source checked out out_after status =
    TellsWarnings edition form files source checked out out_after status
TellsWhere false edition form files source checked out out_after status = (out_after ≡ out) × (status ≡ checked)

-- The text of rules is none, and its first fault was told and nothing else; or the source was checked, and then it was
-- told where rules fit.
pub data ChecksBy (edition : Edition) (form : FindingForm) (files : Files) (source : List ℕ) (file : List ℕ)
    (out out_after line line_after : Outgoing) (status : ℕ) : Type 0 where
  refused : IsRefused file line line_after status → out_after ≡ out
      → ChecksBy edition form files source file out out_after line line_after status
  checked : (told : ℕ) (out_told : Outgoing) → Checks (record {
    edition = edition;
    form = form;
    files = files;
    source = source;
    out = out;
    out_after = out_told;
    status = told;
  }) → TellsWhere (tells_more told) edition form files source told out_told out_after status → line_after ≡ line
      → ChecksBy edition form files source file out out_after line line_after status

-- the source compiles, or this is its fault
abbrev pub IsFaultOf : Edition → (source : List ℕ) → Option Diagnostic → Type 0
IsFaultOf edition source None = (ds : List Definition) × IsCodeOf edition source ds
IsFaultOf edition source (Some d) = HasFault edition source d

-- the line that tells where the fault of a source is
abbrev pub fault_line : (file : List ℕ) → (line : ℕ) → List ℕ
fault_line file line =
    joined (file_text file ∷ codes ":" ∷ decimal line
    ∷ codes ": error: the source has a fault here, of which b check tells\n" ∷ [])

-- Where rules fit is told, with status 0; or they fit nowhere, with status 1.
abbrev pub TellsFound : (text : List ℕ) → Outgoing → Outgoing → (status : ℕ) → Type 0
TellsFound text out out_after status =
    ((text ≡ []) × (out_after ≡ out) × (status ≡ FAULT)) ⊎ ((text ≡ [] → ⊥) × Reported text DONE out out_after status)

-- It is told where rules fit in a source that compiles. Of another one the line of its fault is told. Or memory was
-- refused, and nothing is told.
pub data Finds (edition : Edition) (form : FindingForm) (files : Files) (source : List ℕ) (own : OwnRules)
    (out out_after line line_after : Outgoing) (status : ℕ) : Type 0 where
  looked : (ds : List Definition) (text : List ℕ) → IsCodeOf edition source ds
      → TellsPlaces edition form files severity.Note source own text → TellsFound text out out_after status
      → line_after ≡ line → Finds edition form files source own out out_after line line_after status
  faulty : (d : Diagnostic) → HasFault edition source d
      → Reported (fault_line files.first.name d.line) FAULT line line_after status → out_after ≡ out
      → Finds edition form files source own out out_after line line_after status
  no_memory : out_after ≡ out → line_after ≡ line → status ≡ MEMORY
      → Finds edition form files source own out out_after line line_after status
