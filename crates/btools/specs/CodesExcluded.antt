-- Promise: a code text decides what is told of its program, whatever its streams do: program, lines, line and status.
use Rattle.std.specs.Prelude.{◌≡◌, ℕ, List, Some, None, ◌⊎◌, map}
use Rattle.bauthor.specs.declared.fault.LineWanted.{LineWanted}
use Rattle.bauthor.specs.declared.fault.Wanted.{Wanted}
use Rattle.bword.specs.ByteEnds.{Grew, Outgoing, Writes}
use Rattle.bcode.specs.Faults.{IsFaultLine}
use Rattle.blang.specs.declared.code.Definition.{Definition}
use Rattle.blang.specs.declared.run.LoadFault.{LoadFault}
use Rattle.blang.specs.declared.run.Report.TheVariants as report
use Rattle.blang.specs.declared.status.TheConstants.{DEVICE, MEMORY, REFUSED, WRONG_COMMAND}
use Rattle.blang.specs.declared.token.Diagnostic.{Diagnostic}
use Rattle.blang.specs.Layout.{load_fault}
use Rattle.blang.specs.Machine.{Image}
use Rattle.blang.specs.Reports.{report_text}
use Rattle.blang.specs.Text.{IsCodeText}
use Rattle.btools.specs.declared.names.Frame.{Frame}
use Rattle.btools.specs.declared.program.ProgramFault.TheVariants as why
use Rattle.btools.specs.NamedFrames.{HasFrames, HasWrongName, function_names, unnamed_line}
use Rattle.btools.specs.Origins.{Code, HasNoProgramOf, LinesOf, NamesOf, NoProgramOf, ProgramOf}
use Rattle.btools.specs.PlaceLines.{CodeText, HasPlaceLines, HasWrongLine, unlined_line}
use Rattle.btools.specs.Programs.{load_line}

-- The file of lines, or that of names, doesn't suit the code, and this is told.
abbrev pub IsUnsuited : CodeText → List Definition → Outgoing → Outgoing → Type 0
IsUnsuited c ds line line_after =
    ((number : ℕ) × (w : LineWanted) × HasWrongLine c ds number w × Writes line (unlined_line number w) line_after)
    ⊎ ((number : ℕ) × (w : Wanted) × HasWrongName c ds number w × Writes line (unnamed_line number w) line_after)

module _ (c : CodeText) (source : List ℕ) (lines : Diagnostic → List ℕ) (line line_after : Outgoing) where
  -- There is no program with this status.
  abbrev pub Tells : (status : ℕ) → Type 0
  Tells status = NoProgramOf (Code c) source lines line line_after status

  -- What is excluded of a code text of these definitions, whatever stands beside it.
  pub record ExcludedOfText (ds : List Definition) : Type 0 where
    -- a program of other definitions, or of definitions that don't load
    pub program : (es : List Definition) (image : Image) → ProgramOf (Code c) source es image
        → (es ≡ ds) × (load_fault ds ≡ None)
    -- other lines
    pub lined : (ls ms : List ℕ) → LinesOf (Code c) source ls → LinesOf (Code c) source ms → ls ≡ ms
    -- other names
    pub named : (fs gs : List Frame) → NamesOf (Code c) source fs → NamesOf (Code c) source gs
        → map function_names fs ≡ map function_names gs
    -- a wrong line, or a fault of a source
    pub unread : (n : ℕ) → HasNoProgramOf (Code c) source (why.Unread n) → ⊥
    pub faulty : (d : Diagnostic) → HasNoProgramOf (Code c) source (why.Faulty d) → ⊥
    -- 0 without a program, and each other status but these
    pub status : (status : ℕ) → Tells status
        → (status ≡ REFUSED) ⊎ (status ≡ WRONG_COMMAND) ⊎ (status ≡ DEVICE) ⊎ (status ≡ MEMORY)
    -- 132 for definitions that load, or with another line, or with none
    pub unloaded : Tells REFUSED
        → (f : LoadFault) × (text : List ℕ) × (load_fault ds ≡ Some f) × (load_line f ≡ Some text)
        × Writes line text line_after
    -- 135 for a file of lines and one of names that suit the code, or with another line
    pub unsuited : Tells WRONG_COMMAND → IsUnsuited c ds line line_after
    -- 133 where no write of a line failed
    pub device : Tells DEVICE → Grew line.failures line_after.failures
    -- another status than that of refused memory where the code text has a program, lines and names
    pub loads : (status : ℕ) → Tells status → load_fault ds ≡ None → (ls : List ℕ) → HasPlaceLines c ds ls
        → (fs : List Frame) → HasFrames c ds fs → status ≡ MEMORY

  -- What is excluded of a text that is no code text, of which this is the first wrong line.
  pub record ExcludedOfOther (n : ℕ) : Type 0 where
    -- a program
    pub program : (ds : List Definition) (image : Image) → ProgramOf (Code c) source ds image → ⊥
    -- 0 without a program, and each other status but these
    pub status : (status : ℕ) → Tells status → (status ≡ REFUSED) ⊎ (status ≡ DEVICE) ⊎ (status ≡ MEMORY)
    -- 132 with another line, or with none
    pub unread : Tells REFUSED → Writes line (report_text (report.Code n)) line_after
    -- 133 where no write of a line failed
    pub device : Tells DEVICE → Grew line.failures line_after.failures

-- the same of each code text, and of each other text
pub record WrongCodes : Type 0 where
  pub texts : (c : CodeText) (source : List ℕ) (lines : Diagnostic → List ℕ) (line line_after : Outgoing)
      (ds : List Definition) → IsCodeText c.code ds → ExcludedOfText c source lines line line_after ds
  pub others : (c : CodeText) (source : List ℕ) (lines : Diagnostic → List ℕ) (line line_after : Outgoing) (n : ℕ)
      → IsFaultLine c.code n → ((ds : List Definition) → IsCodeText c.code ds → ⊥)
      → ExcludedOfOther c source lines line line_after n
