-- Promise: what is known of a finding before it is told.
use Rattle.std.specs.Prelude.{◌≡◌, ℕ, ◌+◌, ◌<◌, ◌⊎◌, ◌&&◌, Bool, IsTrue, true, false, List, [], ◌∷◌, ◌++◌, codes, drop}
use Rattle.std.specs.Prelude.{map, not, Option, Some, None, IfSome, Result, Ok, Err, MatchResult, ◌≤◌, ◌-◌, length, min}
use Rattle.std.specs.Prelude.{nat_lt, take}
use Rattle.bword.specs.declared.edition.Edition.{Edition}
use Rattle.bword.specs.ByteEnds.{most}
use Rattle.blang.specs.Cut.{line_number_after}
use Rattle.blang.specs.declared.status.TheConstants.{DONE}
use Rattle.blang.specs.declared.token.Diagnostic.{Diagnostic}
use Rattle.blang.specs.declared.token.Letters.{Letters}
use Rattle.blex.specs.declared.lexeme.Lexeme.{Lexeme}
use Rattle.blex.specs.declared.lexeme.Lexeme.TheVariants as lexeme
use Rattle.bsources.specs.Files.{Files, line_shown, own_line, files_shown}
use Rattle.bcheck.specs.Checks.{EachOutcome, EditParts, FindingParts, IsAtToken, IsBetter, Mends, Outcome, Reason}
use Rattle.bcheck.specs.Checks.{StandsOn, TellsAll, change_line, edit_object, mended, mended_line, tokens_in}
use Rattle.bcheck.specs.Checks.{with_newline, diagnostic_code, fault_in, finding_text, is_in_line, is_of_several}
use Rattle.bcheck.specs.Checks.{is_on_line, IsFurther, IsOfSection, IsOfSections, TellsSection}
use Rattle.bcheck.specs.Pieces.{change_text, edit_text, line_text}
use Rattle.bplaces.specs.Columns.{column_after}
use Rattle.bcheck.specs.UndefinedNames.{IsAtName, beginnings, ends_name, name_in, told_subjects, Tells}
use Rattle.bcheck.specs.declared.change.Change.{Change}
use Rattle.bcheck.specs.declared.verdict.Judgement.{Judgement}
use Rattle.bcheck.specs.declared.mention.Subject.{Subject}
use Rattle.bcheck.specs.declared.mention.Subject.TheVariants as subject
use Rattle.blang.specs.declared.code.Definition.{Definition}
use Rattle.bword.specs.Words.{same_name}
use Rattle.std.specs.Global.{Vec}
use Rattle.std.specs.List.{All, list_any, flat_map}
use Rattle.blex.specs.declared.scanner.PlacedPiece.{PlacedPiece}
use Rattle.bcheck.specs.Tokens.{has_token_on, is_on, pieces_of}
use Rattle.bplaces.specs.Units.{first_unit, unit_column, units_after}
use Rattle.bcheck.specs.declared.advice.Matter.{Matter}
use Rattle.bcheck.specs.declared.advice.Matter.TheVariants as matter
use Rattle.bcheck.specs.RuleWarnings.{TellsWarnings, warning_code}
use Rattle.btools.specs.Programs.{HasFault, IsCodeOf}
use Rattle.bcheck.specs.declared.compiled.Compiled.{Compiled}
use Rattle.bcheck.specs.declared.edit.Edit.{Edit}
use Rattle.bcheck.specs.declared.edit.Proposal.{Proposal}
use Rattle.bcheck.specs.declared.excerpt.Excerpt.{Excerpt}
use Rattle.bcheck.specs.declared.finding.Finding.{Finding}
use Rattle.bcheck.specs.declared.finding.SecondPlace.{SecondPlace}
use Rattle.bcheck.specs.declared.finding.Severity.{Severity}
use Rattle.bcheck.specs.declared.form.FindingForm.{FindingForm}
use Rattle.bcheck.specs.declared.places.Milestone.{Milestone}
use Rattle.bcheck.specs.declared.undefined.UndefinedName.{UndefinedName}
use Rattle.bcheck.specs.Sections.{Section, StopsAlone}
use Rattle.bcheck.specs.declared.finding.TheConstants.{MOST_FINDINGS}
use Rattle.bcheck.specs.declared.told.Setting.{Setting}
use Rattle.bcheck.specs.declared.verdict.Verdict.{Verdict}
use Rattle.bcheck.specs.declared.verdict.Verdict.TheVariants as verdict

-- by which code each matter is known
abbrev pub matter_code : Matter → List ℕ
matter_code matter.OpenComment = codes "*/"
matter_code (matter.Character byte) = codes "ch"
matter_code matter.LongName = codes "nm"
matter_code (matter.Constant constant) = codes "ct"
matter_code (matter.Syntax syntax) = codes "sx"
matter_code matter.CaseOutside = codes "sx case"
matter_code matter.DefaultOutside = codes "sx default"
matter_code matter.BreakOutside = codes "sx break"
matter_code matter.NameAgain = codes "rd"
matter_code matter.PrototypeBefore = codes "rd"
matter_code matter.CaseAgain = codes "rd case"
matter_code matter.DefaultAgain = codes "rd default"
matter_code (matter.NotLvalue lvalue) = codes "lv"
matter_code (matter.Unknown unknown) = codes "un"
matter_code matter.TooManyNames = codes ">s"
matter_code matter.TooManyCases = codes ">c"
matter_code (matter.TooLarge limit) = codes ">e"
matter_code matter.DataTooLarge = codes "load 2"
matter_code matter.NoTypes = codes "load 3"
matter_code (matter.NotDefined undefined) = codes "load 3"
matter_code (matter.Warning warning) = warning_code warning

-- what was compiled is this source: the code of its definitions, or its fault
abbrev pub IsCompiled : Edition → List ℕ → Compiled → Type 0
IsCompiled edition source c =
    MatchResult c.code (λ v. IsCodeOf edition source v.items) (HasFault edition source)

-- the diagnostic of a verdict is the one that the source comes to
abbrev pub IsStopOf : Edition → List ℕ → Verdict → Type 0
IsStopOf edition source (verdict.Faulty line d) = HasFault edition source d
IsStopOf edition source v = Unit {0}

-- the definitions of the code; none, if there is a fault
abbrev pub definitions_of : Result (Vec Definition) Diagnostic → List Definition
definitions_of (Ok definitions) = definitions.items
definitions_of (Err d) = []

abbrev pub definitions_in : Compiled → List Definition
definitions_in c = definitions_of c.code

-- The finding is on this name, which isn't defined.
abbrev pub IsOnName : List ℕ → Finding → Type 0
IsOnName x f = (u : UndefinedName) × (f.name ≡ Some x) × (f.matter ≡ matter.NotDefined u)

-- The finding is on this.
abbrev pub IsOn : Subject → Finding → Type 0
IsOn (subject.Name x) f = IsOnName x f
IsOn (subject.Word x) f = IsOnName x f
IsOn (subject.Typed x) f = (f.name ≡ Some x) × (f.matter ≡ matter.NoTypes)

-- It stands at the name in it, too.
abbrev pub TellsOf : (source : List ℕ) → Subject → Finding → Type 0
TellsOf source subject f =
    IsOn subject f × IsAtName (name_in subject) (take f.place.start source) (drop f.place.start source)

-- The findings are all that is told of the source.
abbrev pub AreWhole : Edition → List ℕ → List Finding → Type 0
AreWhole edition source found = EachOutcome edition source (λ o. TellsAll (TellsOf source) o found)

-- the sentence has `@` after this beginning, and then nothing or a colon
abbrev pub begins_name : (begin sentence : List ℕ) → Bool
begins_name begin sentence =
    same_name (take (length begin + 1) sentence) (begin ++ 64 ∷ []) && ends_name (drop (length begin + 1) sentence)

abbrev pub is_with_name : List ℕ → Bool
is_with_name sentence = list_any (λ begin. begins_name begin sentence) beginnings

-- the sentence is one on this matter
abbrev pub is_sentence : Matter → List ℕ → Bool
is_sentence (matter.NotDefined undefined) sentence = is_with_name sentence
is_sentence matter.NoTypes sentence = same_name sentence (codes "there are no types: the name before @ is defined")
is_sentence m sentence = true

-- what is found of a source, and where
abbrev pub found_at : (source : List ℕ) → Finding → List ℕ × List ℕ
found_at source f = (take f.place.start source, matter_code f.matter)

-- Of a source with this status what the rules say is found.
abbrev pub AreWarned : Edition → Files → List ℕ → (status : ℕ) → List Finding → Type 0
AreWarned edition files source status found =
    status ≡ DONE → TellsWarnings edition files source (map (found_at source) found)

-- the matter is that of the diagnostic, and the place is one for it
abbrev pub TellsFault : Edition → List ℕ → Diagnostic → Finding → Type 0
TellsFault edition source d f =
    (matter_code f.matter ≡ diagnostic_code d)
    × StandsOn edition d.line (take f.place.start source) (drop f.place.start source)
    × IsAtToken edition d.line (take f.place.start source) (drop f.place.start source)

-- an error of this code at this place is one of what the source comes to
abbrev pub ReasonAt : (code : List ℕ) → (start : ℕ) → Outcome → Type 0
ReasonAt code start o = Reason o.edition o.stop (fault_in o) code (take start o.source) (drop start o.source)

abbrev pub IsReasoned : Edition → List ℕ → Finding → Type 0
IsReasoned edition source f = EachOutcome edition source (ReasonAt (matter_code f.matter) f.place.start)

-- A token of the line was found, where the source has one there.
abbrev pub FindsOn : Edition → (line : ℕ) → List ℕ → Option PlacedPiece → Type 0
FindsOn edition line source None = has_token_on edition line source ≡ false
FindsOn edition line source (Some p) =
    (is_on line p ≡ true) × (line_number_after 1 (take p.first source) ≡ line) × (p.first < p.end)
    × (p.end ≤ length source)
    × ((test : PlacedPiece → Bool) → test p ≡ true → list_any test (pieces_of edition source) ≡ true)

-- one was found before, or is the piece that comes, if it is a token of the line
abbrev pub Chooses : (line : ℕ) → PlacedPiece → Option PlacedPiece → Option PlacedPiece → Type 0
Chooses line p old new = ((new ≡ Some p) × (is_on line p ≡ true)) ⊎ ((new ≡ old) × (old ≡ None → is_on line p ≡ false))

-- the line and the columns of a milestone are those of its place in the source
pub record IsMilestone (source : List ℕ) (m : Milestone) : Type 0 where
  pub within : m.start ≤ length source
  pub line : m.line ≡ line_number_after 1 (take m.start source)
  pub column : m.column ≡ column_after 1 (take m.start source)
  pub some : 0 < m.column
  pub units : m.units ≡ units_after first_unit (take m.start source) (drop m.start source)

-- What is shown of a place, and the numbers of its line and its column.
pub record IsExcerpt (source : List ℕ) (start : ℕ) (e : Excerpt) : Type 0 where
  pub before : List ℕ
  pub after : List ℕ
  pub first : before ++ e.left.now ≡ take start source
  pub rest : e.right.now ++ after ≡ drop start source
  pub line : e.line ≡ line_number_after 1 (take start source)
  pub column : e.column ≡ column_after 1 (take start source)
  pub from_line : length e.left.now < e.column
  pub in_line : IsTrue (is_in_line e.right.now)
  pub marked : 0 < e.marks
  pub unit : e.unit ≡ unit_column (take start source) (drop start source)
  pub unit_end : e.unit_end
      ≡ min (unit_column (take start source ++ take e.marks e.right.now) (drop e.marks e.right.now ++ after)
      + (e.marks - length e.right.now)) most

-- the line of its file and the columns are those of a place of the source
abbrev pub IsSpot : Files → (source : List ℕ) → SecondPlace → Type 0
IsSpot files source s =
    (before : List ℕ) × (after : List ℕ) × (source ≡ before ++ after)
    × (line_shown s.at ≡ own_line files (line_number_after 1 before)) × (s.is_of_several ≡ is_of_several files)
    × (s.column ≡ column_after 1 before) × (s.unit ≡ unit_column before after)

abbrev pub IsSecond : Files → (source : List ℕ) → Option SecondPlace → Type 0
IsSecond files source s = IfSome s (IsSpot files source)

-- the edit makes this text of a source, and both of its texts are told of it
pub record IsEdit (files : Files) (source new : List ℕ) (e : Edit) : Type 0 where
  pub parts : EditParts source
  pub makes : mended parts ≡ new
  pub object : edit_text e ≡ edit_object files parts
  pub line : line_text e ≡ mended_line files parts
  pub told : change_text e ≡ change_line files parts
  pub start : e.start ≡ length (parts.before ++ parts.left)
  pub len : e.len ≡ length parts.old
  pub text : e.text.now ≡ parts.text

-- the edit stands where it was proposed, and puts that text there
abbrev pub IsPlaced : List ℕ → Proposal → Edit → Type 0
IsPlaced source p e =
    (e.start ≡ length (take p.start source)) × (e.len ≡ length (take p.len (drop p.start source)))
    × (e.text.now ≡ p.text)

-- a text in the place of these bytes of a line changes something there, and can be printed
abbrev pub changes_line : (old text : List ℕ) → Bool
changes_line old text = (is_in_line old && is_on_line text) && not (same_name text old)

-- what comes of a text is better than what comes of a source
abbrev pub Improves : Edition → (source new : List ℕ) → Type 0
Improves edition source new = EachOutcome edition source (λ o. EachOutcome edition new (λ n. IsBetter n o))

-- the edit was tried
abbrev pub IsTried : Edition → Files → (source : List ℕ) → Edit → Type 0
IsTried edition files source e = (new : List ℕ) × IsEdit files source new e × Improves edition source new

-- it mends whatever the source comes to
abbrev pub MendsIn : Edition → {source : List ℕ} → EditParts source → Type 0
MendsIn edition {source} e = EachOutcome edition source (λ o. Mends o e)

-- a source with this verdict is better than one with that one
abbrev pub is_better : (new old : Verdict) → Bool
is_better (verdict.Faulty line e) (verdict.Faulty other d) = nat_lt d.line e.line
is_better (verdict.Faulty line e) old = false
is_better verdict.Clean old = true
is_better (verdict.Unloaded f) verdict.Clean = false
is_better (verdict.Unloaded f) old = true

-- of two sources that don't load, the new one has fewer names that nothing defines
abbrev pub FewerNames : (new old : Verdict) → (definitions before : List Definition) → Type 0
FewerNames (verdict.Unloaded f) (verdict.Unloaded g) definitions before =
    length (told_subjects definitions) < length (told_subjects before)
FewerNames new old definitions before = Unit {0}

-- a source with these parts and a newline between them has its fault on this line
abbrev pub StopsOn : Edition → (before rest : List ℕ) → (line : ℕ) → Type 0
StopsOn edition before rest line =
    (d : Diagnostic) × HasFault edition (with_newline before rest) d × (d.line ≡ line)

-- it is so, and the newline changes no token of this source
abbrev pub StopsApart : Edition → (source before rest : List ℕ) → (line : ℕ) → Type 0
StopsApart edition source before rest line =
    StopsOn edition before rest line × (tokens_in edition (with_newline before rest) ≡ tokens_in edition source)

-- both are the same wrong token
abbrev pub IsSameWrong : (one other : Option Lexeme) → Type 0
IsSameWrong one other = (letters : Letters) × (one ≡ Some (lexeme.Bad letters)) × (other ≡ Some (lexeme.Bad letters))

-- what was judged is better than what was judged before
abbrev pub Surpasses : (new old : Judgement) → Type 0
Surpasses new old =
    (is_better new.verdict old.verdict ≡ true)
    × FewerNames new.verdict old.verdict (definitions_in new.compiled) (definitions_in old.compiled)

-- the change is this edit
abbrev pub IsChanged : Edit → Change → Type 0
IsChanged e c = (c.start ≡ e.start) × (c.len ≡ e.len) × (c.text ≡ e.text.now) × (c.line ≡ change_text e)

-- the change is an edit of a source that mends it, and its line tells it
pub record IsChange (edition : Edition) (files : Files) (source : List ℕ) (c : Change) : Type 0 where
  pub edit : EditParts source
  pub start : c.start ≡ length (edit.before ++ edit.left)
  pub len : c.len ≡ length edit.old
  pub text : c.text ≡ edit.text
  pub line : c.line ≡ change_line files edit
  pub mends : MendsIn edition edit

-- the text has a finding of this code and this sentence at this place more
abbrev pub AddsFinding : FindingForm → Severity → Edition → Files → (source : List ℕ) → (start : ℕ)
    → (code sentence old new : List ℕ) → Type 0
AddsFinding form s edition files source start code sentence old new =
    (p : FindingParts source) × (p.code ≡ code) × (p.before ++ p.left ≡ take start source)
    × (p.right ++ p.after ≡ drop start source) × (new ≡ old ++ finding_text form s files p) × (p.sentence ≡ sentence)
    × All (MendsIn edition) p.edits

-- a text has this finding more
abbrev pub TellsFinding : FindingForm → Severity → Edition → Files → (source : List ℕ) → Finding → (old new : List ℕ)
    → Type 0
TellsFinding form s edition files source f old new =
    (sentence : List ℕ) × ((subject : Subject) → IsOn subject f → Tells subject sentence)
    × AddsFinding form s edition files source f.place.start (matter_code f.matter) sentence old new

-- the finding is on the fault of a section
abbrev pub IsOnSection : Edition → (source : List ℕ) → Section × Diagnostic → Finding → Type 0
IsOnSection edition source fault f = IsOfSection edition fault (matter_code f.matter) (take f.place.start source)

-- what is found of the sections after a line
abbrev pub TellsAfter : Edition → (source : List ℕ) → (line : ℕ) → List Finding → Type 0
TellsAfter edition source line found = IsOfSections (IsOnSection edition source) edition line source found

-- There is a finding on the fault of a section, unless so many that are there are enough.
abbrev pub TellsStop : Edition → (source : List ℕ) → Section → Option Diagnostic → (count : ℕ) → List Finding → Type 0
TellsStop edition source s None count more = more ≡ []
TellsStop edition source s (Some d) count more =
    ((MOST_FINDINGS - 1 ≤ count) × (more ≡ []))
    ⊎ ((count < MOST_FINDINGS - 1) × (f : Finding) × (more ≡ f ∷ []) × IsOnSection edition source (s, d) f)

abbrev pub HasFaults : Edition → (source : List ℕ) → Section → (count : ℕ) → List Finding → Type 0
HasFaults edition source s count more =
    (stop : Option Diagnostic) × StopsAlone edition s.text stop × TellsStop edition source s stop count more

-- a text has these findings more, with edits that mend
abbrev pub AddsThese : (setting : Setting) → List (FindingParts setting.source.text.now) → (old new : List ℕ) → Type 0
AddsThese setting further old new =
    (new ≡ old ++ flat_map (finding_text setting.asked.form setting.severity (files_shown setting.asked.files)) further)
    × All (λ p. All (MendsIn setting.source.edition) p.edits) further

-- a text has the findings more that are told of the sections after a line
abbrev pub AddsAfter : Setting → (line : ℕ) → (old new : List ℕ) → Type 0
AddsAfter setting line old new =
    (further : List (FindingParts setting.source.text.now))
    × IsOfSections (TellsSection setting.source.edition) setting.source.edition line setting.source.text.now further
    × AddsThese setting further old new

-- what is told after the fault of a verdict; else nothing
abbrev pub IsAfter : {source : List ℕ} → Edition → Verdict → (further : List (FindingParts source)) → Type 0
IsAfter edition (verdict.Faulty line d) further = IsFurther edition (Some d) further
IsAfter edition v further = IsFurther edition None further

abbrev pub AddsFurther : Setting → Verdict → (old new : List ℕ) → Type 0
AddsFurther setting v old new =
    (further : List (FindingParts setting.source.text.now)) × IsAfter setting.source.edition v further
    × AddsThese setting further old new
