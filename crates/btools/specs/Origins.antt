-- Promise: the program of a source or of a code text, or why there is none.
use Rattle.std.specs.Prelude.{◌≡◌, ℕ, List, [], None, Some, option_map, unwrap_or}
use Rattle.bword.specs.declared.edition.Edition.{Edition}
use Rattle.bword.specs.ByteEnds.{Outgoing}
use Rattle.bcode.specs.Faults.{IsFaultLine}
use Rattle.blang.specs.declared.code.Definition.{Definition}
use Rattle.blang.specs.declared.token.Diagnostic.{Diagnostic}
use Rattle.blang.specs.Layout.{load_fault}
use Rattle.blang.specs.Machine.{Image}
use Rattle.blang.specs.Text.{IsCodeText}
use Rattle.bmach.specs.Resolved.{IsLoadedFrom}
use Rattle.btools.specs.FrameNames.{HasNames}
use Rattle.btools.specs.NamedFrames.{HasFrames, HasWrongName}
use Rattle.btools.specs.PlaceLines.{CodeText, HasPlaceColumns, HasPlaceLines, HasWrongLine}
use Rattle.btools.specs.ProgramLines.{HasLines}
use Rattle.btools.specs.Programs.{HasNoProgram, HasProgram, TellsFault}
use Rattle.btools.specs.declared.names.Frame.{Frame}
use Rattle.btools.specs.declared.origin as given
use Rattle.btools.specs.declared.origin.Origin.TheVariants as origin
use Rattle.btools.specs.declared.program.Program.{Program}
use Rattle.btools.specs.declared.program.ProgramFault.{ProgramFault}
use Rattle.btools.specs.declared.program.ProgramFault.TheVariants as why

-- what a program is read from: a source in an edition, or a code text
pub data Origin : Type 0 where
  Source : Edition → Origin
  Code : CodeText → Origin

abbrev pub code_text_shown : given.CodeText.CodeText → CodeText
code_text_shown c = record {
  code = c.code.now;
  lines = option_map (λ file. file.now) c.lines;
  source = option_map (λ file. file.now) c.source;
  names = option_map (λ file. file.now) c.names;
}

abbrev pub origin_shown : given.Origin.Origin → Origin
origin_shown (origin.Source edition) = Source edition
origin_shown (origin.Code c) = Code (code_text_shown c)

-- It is the code text of these definitions, which load to this image.
pub record HasCode (code : List ℕ) (ds : List Definition) (image : Image) : Type 0 where
  pub text : IsCodeText code ds
  pub loads : load_fault ds ≡ None
  pub loaded : IsLoadedFrom ds image

abbrev pub ProgramOf : Origin → (source : List ℕ) → List Definition → Image → Type 0
ProgramOf (Source edition) source ds image = HasProgram edition source ds image
ProgramOf (Code c) source ds image = HasCode c.code ds image

-- These are the lines of the places of a code text.
abbrev pub HasTextLines : CodeText → (lines : List ℕ) → Type 0
HasTextLines c lines = (ds : List Definition) → IsCodeText c.code ds → HasPlaceLines c ds lines

-- These are the lines of the instructions and initial values of the program.
abbrev pub LinesOf : Origin → (source : List ℕ) → (lines : List ℕ) → Type 0
LinesOf (Source edition) source lines = HasLines edition source lines
LinesOf (Code c) source lines = HasTextLines c lines

-- These are the names of the functions of a code text.
abbrev pub HasTextNames : CodeText → List Frame → Type 0
HasTextNames c frames = (ds : List Definition) → IsCodeText c.code ds → HasFrames c ds frames

-- These are the names of the words of its frames, and of the labels of a code text.
abbrev pub NamesOf : Origin → (source : List ℕ) → List Frame → Type 0
NamesOf (Source edition) source frames = HasNames edition source frames
NamesOf (Code c) source frames = HasTextNames c frames

-- These are the columns of the places of a code text.
abbrev pub HasTextColumns : CodeText → (columns : List ℕ) → Type 0
HasTextColumns c columns = (ds : List Definition) → IsCodeText c.code ds → HasPlaceColumns c ds columns

-- These are the columns of the instructions and initial values of the program. A source of B has none.
abbrev pub ColumnsOf : Origin → (columns : List ℕ) → Type 0
ColumnsOf (Source edition) columns = columns ≡ []
ColumnsOf (Code c) columns = HasTextColumns c columns

-- where the places of a program come from in its source: their lines, and their columns, if these are told
pub record SourcePlaces : Type 0 where
  pub lines : List ℕ
  pub columns : List ℕ

abbrev pub PlacesOf : Origin → (source : List ℕ) → SourcePlaces → Type 0
PlacesOf origin source places = LinesOf origin source places.lines × ColumnsOf origin places.columns

-- what a program keeps of them
abbrev pub places_kept : Program → SourcePlaces
places_kept p = record { lines = p.names.lines.items; columns = p.columns.items }

-- It has lines and names: what stands beside a code text suits it.
abbrev pub IsSuited : Origin → (source : List ℕ) → Type 0
IsSuited origin source =
    ((lines : List ℕ) × LinesOf origin source lines) × ((frames : List Frame) × NamesOf origin source frames)

-- the file of lines of a code text of these definitions suits it, or there is none; and that of names
abbrev pub IsLined : CodeText → List Definition → Type 0
IsLined c ds = (lines : List ℕ) × HasPlaceLines c ds lines

abbrev pub IsNamed : CodeText → List Definition → Type 0
IsNamed c ds = (frames : List Frame) × HasFrames c ds frames

-- why a code text has no program, in this order: its first wrong line, or that of its file of lines, or that of its file
-- of names, or why it doesn't load; or that memory was refused
abbrev pub HasNoCode : CodeText → ProgramFault → Type 0
HasNoCode c (why.Faulty d) = ⊥
HasNoCode c (why.Unread n) = IsFaultLine c.code n × ((ds : List Definition) → IsCodeText c.code ds → ⊥)
HasNoCode c (why.Unlined n w) = (ds : List Definition) × IsCodeText c.code ds × HasWrongLine c ds n w
HasNoCode c (why.Unnamed n w) =
    (ds : List Definition) × IsCodeText c.code ds × HasWrongName c ds n w × IsLined c ds
HasNoCode c (why.Unloaded f) =
    (ds : List Definition) × IsCodeText c.code ds × (load_fault ds ≡ Some f) × IsLined c ds × IsNamed c ds
HasNoCode c why.Memory = Unit {0}

abbrev pub HasNoProgramOf : Origin → (source : List ℕ) → ProgramFault → Type 0
HasNoProgramOf (Source edition) source fault = HasNoProgram edition source fault
HasNoProgramOf (Code c) source fault = HasNoCode c fault

-- there is no program, and why was told
abbrev pub NoProgramOf : Origin → (source : List ℕ) → (lines : Diagnostic → List ℕ) → Outgoing → Outgoing
    → (status : ℕ) → Type 0
NoProgramOf origin source lines line line_after status =
    (fault : ProgramFault) × HasNoProgramOf origin source fault × TellsFault lines fault line line_after status

abbrev pub IsProgramOf : Origin → (source : List ℕ) → Program → Type 0
IsProgramOf origin source p = ProgramOf origin source p.definitions.items p.image

-- what stands beside the lines of a program: its source, and nothing beside the own lines of a code text
abbrev pub beside : Origin → (source : List ℕ) → List ℕ
beside (Source edition) source = source
beside (Code c) source = unwrap_or (option_map (λ file. source) c.lines) []
