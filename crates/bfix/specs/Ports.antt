-- Promise: what is written of an old source that is ported, and what is told of it.
use Rattle.std.specs.Prelude.{◌≡◌, ◌⊎◌, ℕ, List, [], ◌++◌, true, unwrap_or}
use Rattle.std.specs.List.{list_any}
use Rattle.bword.specs.declared.edition.Edition.{Edition}
use Rattle.blang.specs.declared.status.TheConstants.{DONE, FAULT, MEMORY, REFUSED}
use Rattle.blang.specs.Compiles.{line_of}
use Rattle.bsources.specs.Files.{Files}
use Rattle.btools.specs.Programs.{HasNoProgram, load_line}
use Rattle.btools.specs.declared.program.ProgramFault.{ProgramFault}
use Rattle.btools.specs.declared.program.ProgramFault.TheVariants as why
use Rattle.bport.specs.Changes.{listed}
use Rattle.bport.specs.Edits.{HasSomeProgram, IsFaulty, IsFaultyAlone, are_edits_of, edited, is_reason}
use Rattle.bport.specs.declared.edit.Edit.{Edit}
use Rattle.bport.specs.declared.porting.Ported.{Ported}
use Rattle.bport.specs.declared.row.Note.{Note}
use Rattle.bport.specs.Staying.{IsLeft, notes_text, refuses}
use Rattle.bfix.specs.Fixes.{Fixed, IsLed, all_lines}
use Rattle.bfix.specs.OwnText.{Replacing, TellsTexts, own_in, rest_in}
use Rattle.bfix.specs.declared.fixing.FixedText.{FixedText}
use Rattle.bfix.specs.declared.fixing.Frame.{Frame}
use Rattle.bfix.specs.declared.fixing.Led.{Led}

-- the line and the status of a source that doesn't compile or load
abbrev pub verdict_text : ProgramFault → List ℕ
verdict_text (why.Faulty d) = line_of d
verdict_text (why.Unloaded f) = unwrap_or (load_line f) []
verdict_text other = []

abbrev pub verdict_status : ProgramFault → ℕ
verdict_status (why.Faulty d) = FAULT
verdict_status other = REFUSED

-- A source compiles and loads, and no line is told; or it doesn't, with this line and this status.
abbrev pub HasVerdict : Edition → (whole : List ℕ) → (line : List ℕ) → (status : ℕ) → Type 0
HasVerdict edition whole line status =
    (HasSomeProgram edition whole × (line ≡ []) × (status ≡ DONE))
    ⊎ ((fault : ProgramFault) × HasNoProgram edition whole fault × (is_reason fault ≡ true)
    × (line ≡ verdict_text fault) × (status ≡ verdict_status fault))

-- A source has no edit and no change, and compiles and loads with what comes after it. Or it doesn't, or not alone and
-- in edition 1: then each sign of another form that stays is told.
abbrev pub StaysIfItRuns : Edition → (own rest : List ℕ) → List Edit → List Note → (lines : List (List ℕ)) → Type 0
StaysIfItRuns edition own rest es notes lines =
    (HasSomeProgram edition (own ++ rest) × (es ≡ []) × (lines ≡ []))
    ⊎ ((IsFaulty edition (own ++ rest) ⊎ IsFaultyAlone own) × IsLeft own es notes)

-- what is told of edits and notes
abbrev pub edits_told : (file own : List ℕ) → List Edit → List Note → List ℕ
edits_told file own es notes = listed file own 1 0 [] es ++ notes_text file own notes

-- Edits of a text, which these bytes follow, and then changes of what they make of it: what comes out, and what is
-- told: each edit, each note, each change, and the line of what comes out, which has this status.
pub record Edited (edition : Edition) (files : Files) (own rest new told : List ℕ) (status : ℕ) : Type 0 where
  pub edits : List Edit
  pub fit : are_edits_of own edits ≡ true
  pub mended : Fixed edition files rest (edited own 0 edits) new
  pub notes : List Note
  pub stays : StaysIfItRuns edition own rest edits notes mended.lines
  pub quiet : list_any refuses notes ≡ true → mended.lines ≡ []
  pub line : List ℕ
  pub list : told ≡ (edits_told files.first.name own edits notes ++ all_lines mended.lines) ++ line
  pub verdict : HasVerdict edition (new ++ rest) line status

-- The text was written, and then the edits and changes were told, with the line and the status of what comes out; or
-- memory was refused, and nothing was written.
pub data Ports (p : Replacing) : Type 0 where
  ported : (new told : List ℕ) (status : ℕ)
      → Edited p.edition p.files (own_in p) (rest_in p) new told status
      → TellsTexts new told status p.out p.out_after p.line p.line_after p.status → Ports p
  no_memory : p.out_after ≡ p.out → p.line_after ≡ p.line → p.status ≡ MEMORY → Ports p

-- Inner words.

-- what is told of a ported text
abbrev pub IsTold : Edition → Files → (own rest : List ℕ) → FixedText → Type 0
IsTold edition files own rest made = Edited edition files own rest made.text made.told made.status

-- changes led on from a ported text, and none from a program, or from what can't be read
abbrev pub IsLedOn : Frame → Ported → Led → Type 0
IsLedOn frame p led =
    (l : IsLed frame p.text led) × (p.is_program ≡ true → l.lines ≡ [])
    × (list_any refuses p.notes.items ≡ true → l.lines ≡ [])
