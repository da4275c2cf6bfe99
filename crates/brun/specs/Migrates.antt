-- Promise: what comes of a code text of the first edition that is written as one of the second.
use Rattle.std.specs.Prelude.{◌≡◌, ℕ, ◌<◌, ◌≤◌, true, List, [], ◌∷◌, ◌++◌, length, All, Result, Ok, Err, ◌⊎◌}
use Rattle.std.specs.List.{flat_map}
use Rattle.bword.specs.ByteEnds.{Incoming, Outgoing, Took, Writes, Refuses, Began, CanFollow}
use Rattle.bword.specs.declared.ends.EndFault.{EndFault}
use Rattle.bword.specs.declared.ends.EndFault.TheVariants as end_fault
use Rattle.bword.specs.declared.edition.Edition.TheVariants as editions
use Rattle.bcode.specs.Faults.{IsFaultLineIn}
use Rattle.bcode.specs.Readers.{CodeReader}
use Rattle.bcode.specs.Streams.{EndsInLine, FailsAfter}
use Rattle.blang.specs.Text.{opening, header_line, lines_of, definition_text, end_text, IsTextOf, IsCodeText}
use Rattle.blang.specs.Text.{IsWithinRanges}
use Rattle.blang.specs.declared.code.Definition.{Definition}
use Rattle.blang.specs.declared.status.TheConstants.{DONE, REFUSED, DEVICE, MEMORY}
use Rattle.blang.specs.Reports.{Reported, report_text, RunEnds}
use Rattle.brun.specs.Runs.{RunsText}
use Rattle.bcode.specs.declared.code_stop.CodeStop.{CodeStop}
use Rattle.bcode.specs.declared.code_stop.CodeStop.TheVariants as stop
use Rattle.bcode.specs.declared.fault.CodeFault.TheVariants as code_fault
use Rattle.blang.specs.declared.run.Report.TheVariants as report

-- the text of these definitions in the second edition, without the last line
abbrev pub rewritten : List Definition → List ℕ
rewritten ds = opening editions.Two ++ flat_map definition_text ds

-- These are the definitions of the text whose lines are all among its first lines, those before line n.
pub record AreWhole (text : List ℕ) (n : ℕ) (ds : List Definition) : Type 0 where
  pub within : All IsWithinRanges ds
  pub rest : List ℕ
  pub begins : text ≡ flat_map definition_text ds ++ rest
  pub among : length (flat_map lines_of ds) < n
  pub all : (es : List Definition) (following : List ℕ) → All IsWithinRanges es → text
      ≡ flat_map definition_text es ++ following
      → length (flat_map lines_of es) < n → length es ≤ length ds

-- The text is none of the first edition: no such text goes on with line n, before which these definitions are whole.
pub record IsCutBefore (text : List ℕ) (n : ℕ) (ds : List Definition) : Type 0 where
  pub no_text : (es : List Definition) → IsTextOf editions.One text es → ⊥
  pub fault : IsFaultLineIn editions.One text n
  pub whole : AreWhole text n ds

-- What a text becomes: the text of the second edition of the same definitions; or, where it is no text of the first
-- edition, that of the definitions before the line of the fault, without the last line.
pub data Becomes (text bytes : List ℕ) : Type 0 where
  whole : (ds : List Definition) → IsTextOf editions.One text ds → IsTextOf editions.Two bytes ds → Becomes text bytes
  cut : (n : ℕ) (ds : List Definition) → IsCutBefore text n ds → bytes ≡ rewritten ds → Becomes text bytes

-- the input and the output, before and after
pub record Rewriting : Type 0 where
  pub input : Incoming
  pub input_after : Incoming
  pub out : Outgoing
  pub out_after : Outgoing

-- the same, in order
abbrev pub rewriting : (input input_after : Incoming) (out out_after : Outgoing) → Rewriting
rewriting input input_after out out_after =
    record { input = input; input_after = input_after; out = out; out_after = out_after }

-- No read failed.
abbrev pub HasRead : Rewriting → Type 0
HasRead w = w.input_after.failures ≡ w.input.failures

-- each text that begins with the bytes that were taken, or the one whose end was seen
abbrev pub WhateverFollows : Rewriting → List ℕ → (List ℕ → Type 0) → Type 0
WhateverFollows w taken P = (more : List ℕ) → CanFollow w.input_after more → P (taken ++ more)

-- what was written is a beginning of what each such text becomes
abbrev pub HasBegun : Rewriting → List ℕ → Type 0
HasBegun w taken =
    WhateverFollows w taken (λ text. (bytes : List ℕ) → Becomes text bytes → Began w.out bytes w.out_after)

-- What comes of a run of the one text can come of a run of the other.
abbrev pub RunsAs : List ℕ → List ℕ → Type 0
RunsAs text other =
    (steps : ℕ) (ends : RunEnds) (status : ℕ) → RunsText steps text ends status → RunsText steps other ends status

-- The text was one of the first edition, whose end was seen. The same definitions were written in the second: they
-- alone are read from what was written, and they run as before.
pub record IsMigrated (w : Rewriting) (taken : List ℕ) : Type 0 where
  pub read : HasRead w
  pub definitions : List Definition
  pub whole : IsTextOf editions.One taken definitions
  pub over : w.input_after.is_over ≡ true
  pub text : List ℕ
  pub again : IsTextOf editions.Two text definitions
  pub only : (ds : List Definition) → IsCodeText text ds → ds ≡ definitions
  pub runs : RunsAs taken text × RunsAs text taken
  pub written : Writes w.out text w.out_after

-- The text is none of the first edition, as line n tells, and no byte after that line was taken. The definitions before
-- it were written.
pub record HasBadLine (w : Rewriting) (taken : List ℕ) (n : ℕ) : Type 0 where
  pub read : HasRead w
  pub definitions : List Definition
  pub cut : WhateverFollows w taken (λ text. IsCutBefore text n definitions)
  pub near : EndsInLine n taken
  pub written : Writes w.out (rewritten definitions) w.out_after

-- A read failed, after which nothing was read. What the text begins with was written, and the definitions that were
-- whole: after them none is.
pub record InputFailed (w : Rewriting) (taken : List ℕ) : Type 0 where
  pub fails : FailsAfter w.input taken w.input_after
  pub definitions : List Definition
  pub within : All IsWithinRanges definitions
  pub rest : List ℕ
  pub comes : taken ≡ flat_map definition_text definitions ++ rest
  pub none : (d : Definition) (following : List ℕ) → IsWithinRanges d → rest ≡ definition_text d ++ following → ⊥
  pub written : Writes w.out (rewritten definitions) w.out_after
  pub begun : HasBegun w taken

-- What was read of a definition had no room, which no contract sees: its first line was whole, and no byte after its
-- last line was taken. The definitions before it were written.
pub record NoRoom (w : Rewriting) (taken : List ℕ) : Type 0 where
  pub read : HasRead w
  pub before : List Definition
  pub within : All IsWithinRanges before
  pub next : Definition
  pub inside : IsWithinRanges next
  pub rest : List ℕ
  pub comes : taken ≡ flat_map definition_text before ++ (header_line next ++ rest)
  pub more : List ℕ
  pub whole : definition_text next ≡ header_line next ++ rest ++ more
  pub written : Writes w.out (rewritten before) w.out_after
  pub begun : HasBegun w taken

-- The output took what comes first, and refused the next so.
pub record RefusesNext (w : Rewriting) (first next : List ℕ) (fault : EndFault) : Type 0 where
  pub mid : Outgoing
  pub written : Writes w.out first mid
  pub refused : Refuses mid next fault w.out_after

-- What the output refused: the first line, before anything was read; or the last definition that was read, after which
-- no byte was taken; or the last line, when the end of the text was seen.
pub data IsRefused (w : Rewriting) (taken : List ℕ) (fault : EndFault) : Type 0 where
  first_line : w.input_after ≡ w.input → taken ≡ [] → Refuses w.out (opening editions.Two) fault w.out_after
      → IsRefused w taken fault
  definition : (before : List Definition) (d : Definition) → All IsWithinRanges (before ++ d ∷ [])
      → taken ≡ flat_map definition_text (before ++ d ∷ []) → RefusesNext w (rewritten before) (definition_text d) fault
      → IsRefused w taken fault
  last_line : (ds : List Definition) → IsTextOf editions.One taken ds → w.input_after.is_over ≡ true
      → RefusesNext w (rewritten ds) end_text fault → IsRefused w taken fault

-- The output refused so.
pub record OutFailed (w : Rewriting) (taken : List ℕ) (fault : EndFault) : Type 0 where
  pub read : HasRead w
  pub refused : IsRefused w taken fault
  pub begun : HasBegun w taken

-- some bytes were taken, of which this holds
abbrev pub Taking : Rewriting → (List ℕ → Type 0) → Type 0
Taking w P = (taken : List ℕ) × Took w.input taken w.input_after × P taken

-- what was read and written, by the answer
abbrev pub RewritingGives : Rewriting → Result (Unit {0}) CodeStop → Type 0
RewritingGives w (Ok u) = Taking w (IsMigrated w)
RewritingGives w (Err (stop.Fault (code_fault.Line n))) = Taking w (λ taken. HasBadLine w taken n)
RewritingGives w (Err stop.Device) = Taking w (λ taken. InputFailed w taken ⊎ OutFailed w taken end_fault.Device)
RewritingGives w (Err (stop.Fault code_fault.Memory)) =
    Taking w (λ taken. NoRoom w taken ⊎ OutFailed w taken end_fault.Memory)

-- the same from when a reader was made, after what was written then
abbrev pub DefinitionsGive : CodeReader → Outgoing → Result (Unit {0}) CodeStop → CodeReader → Outgoing → Type 0
DefinitionsGive old opened result new following = (out : Outgoing) → Writes out (opening editions.Two) opened
    → RewritingGives (rewriting old.first.source new.ahead.end out following) result

-- What a text comes to, its line and its status. A line is told of a text that is none of the first edition, alone.
pub data Migrates (w : Rewriting) (line line_after : Outgoing) (status : ℕ) : Type 0 where
  done : Taking w (IsMigrated w) → line_after ≡ line → status ≡ DONE → Migrates w line line_after status
  faulty : (n : ℕ) → Taking w (λ taken. HasBadLine w taken n)
      → Reported (report_text (report.Code n)) REFUSED line line_after status → Migrates w line line_after status
  failed : Taking w (λ taken. InputFailed w taken ⊎ OutFailed w taken end_fault.Device)
      → line_after ≡ line → status ≡ DEVICE → Migrates w line line_after status
  no_memory : Taking w (λ taken. NoRoom w taken ⊎ OutFailed w taken end_fault.Memory)
      → line_after ≡ line → status ≡ MEMORY → Migrates w line line_after status
