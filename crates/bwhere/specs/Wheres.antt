-- Promise: what comes of a code text that is run, where what went wrong is told.
use Rattle.std.specs.Prelude.{◌≡◌, ◌⊎◌, ℕ, ◌+◌, ◌&&◌, nat_lt, Bool, if◌then◌else◌, List, [], ◌++◌, codes, decimal}
use Rattle.std.specs.Prelude.{Option, Some, None, IfSome, count_by, min, ◌==◌}
use Rattle.std.specs.List.{position}
use Rattle.std.specs.Str.{bytes_eq}
use Rattle.bcode.specs.Faults.{HasHeader, IsFaultLine}
use Rattle.bcode.specs.declared.fault.CodeFault.{CodeFault}
use Rattle.bcode.specs.declared.fault.CodeFault.TheVariants as code_fault
use Rattle.bword.specs.ByteEnds.{Outgoing, most}
use Rattle.blang.specs.Layout.{load_fault}
use Rattle.blang.specs.Machine.{Image, machine, run}
use Rattle.blang.specs.Reports.{Finishes, HasNotRun, RunEnds, RunGives, Reported, report_text}
use Rattle.blang.specs.Text.{IsCodeText}
use Rattle.blang.specs.declared.code.Definition.{Definition}
use Rattle.blang.specs.declared.run.LoadFault.{LoadFault}
use Rattle.blang.specs.declared.run.LoadFault.TheVariants as fault
use Rattle.blang.specs.declared.run.Outcome.{Outcome}
use Rattle.blang.specs.declared.run.Outcome.TheVariants as outcome
use Rattle.blang.specs.declared.run.Report.TheVariants as report
use Rattle.blang.specs.declared.run.Trap.TheVariants as trap
use Rattle.blang.specs.declared.status.TheConstants.{MEMORY, REFUSED}
use Rattle.bendless.specs.Repeats.{ComesBack}
use Rattle.bendless.specs.Tellings.{repeat_text}
use Rattle.bendless.specs.declared.search.Repeat.{Repeat}
use Rattle.bmach.specs.Resolved.{IsLoadedFrom}
use Rattle.bmach.specs.Stepping.{BeginsNot}
use Rattle.bmach.specs.Stops.{IsOverAt}
use Rattle.bmach.specs.declared.machine.Active.{Active}
use Rattle.btools.specs.Columns.{left, right}
use Rattle.btools.specs.PlaceLines.{lines_before}
use Rattle.btools.specs.Programs.{load_line, located_status}
use Rattle.btools.specs.SourceLines.{line_at, shown_line, source_lines}
use Rattle.bwhere.specs.Dues.{due_text, part_at}
use Rattle.bwhere.specs.Forms.{hint_text}
use Rattle.bwhere.specs.Sites.{Site, instr_line, site_among}

-- the number of a line of a code text, and the line
abbrev pub code_line_text : (text : List ℕ) → (number : ℕ) → List ℕ
code_line_text text number =
    codes "at     line " ++ right 4 (decimal number) ++ codes "\n    " ++ shown_line (line_at text number) ++ codes "\n"

-- A line that has no newline is the last one.
abbrev pub cut_text : (text : List ℕ) → (number : ℕ) → List ℕ
cut_text text number =
    if nat_lt (count_by (λ b. b == 10) text) number then codes "; the text ends in this line" else []

-- what is told of the first wrong line of a text: the line, what could come there, and the form that it should have
abbrev pub unread_text : (text : List ℕ) → (number : ℕ) → List ℕ
unread_text text number =
    report_text (report.Code number) ++ code_line_text text number ++ codes "  wanted: " ++ due_text text number
    ++ hint_text text number ++ cut_text text number ++ codes "\n"

-- a line with the name as a value or in an instruction
abbrev pub uses : (line name : List ℕ) → Bool
uses line name = bytes_eq (part_at line 0) (codes "x") && bytes_eq (part_at line 1) name

abbrev pub number_after : Option ℕ → ℕ
number_after None = 0
number_after (Some before) = min (before + 1) most

-- the number of the first line that uses a name, from 1; 0 where there is none
abbrev pub line_using : (text name : List ℕ) → ℕ
line_using text name = number_after (position (λ line. uses line name) (source_lines text))

abbrev pub undefined_text : (text name : List ℕ) → List ℕ
undefined_text text name =
    code_line_text text (line_using text name) ++ codes "  means: " ++ name
    ++ codes " is neither defined nor in the library\n"

abbrev pub twice_text : (name : List ℕ) → List ℕ
twice_text name = codes "  means: " ++ name ++ codes " is defined twice\n"

-- why a text doesn't load: the name, and the first line that uses it where nothing defines it
abbrev pub unloaded_text : (text : List ℕ) → LoadFault → List ℕ
unloaded_text text (fault.Undefined name) = undefined_text text name
unloaded_text text (fault.Duplicate name) = twice_text name
unloaded_text text fault.TooLarge =
    codes "  means: the data end would be above 65536, or there are more than 65535 labels\n"
unloaded_text text fault.NoMain = codes "  means: there is no function main\n"
unloaded_text text fault.Memory = []

-- what a trap at a place of a function means, or the limit
abbrev pub code_meaning : Outcome → Site → (place : ℕ) → List ℕ
code_meaning (outcome.Trap trap.ZeroDivisor) site place = codes "the right operand of / or % is 0"
code_meaning (outcome.Trap trap.NotAFunction) site place =
    codes "the callee below the arguments is neither 1 to 6 nor the value of a function"
code_meaning (outcome.Trap trap.NotALabel) site place = codes "the word isn't the value of a label of this function"
code_meaning (outcome.Trap trap.NoRoom) site place = codes "the frame of the called function has no room in the store"
code_meaning (outcome.Trap trap.TooDeep) site place = codes "4096 calls are active"
code_meaning (outcome.Trap trap.BadBase) site place = codes "the base of printn isn't 2 to 10"
code_meaning (outcome.Trap trap.Stuck) site place = if nat_lt place site.instructions then codes "too few operands"
    else codes "no instruction of the function is at this place"
code_meaning outcome.Limit site place = codes "no end within so many steps; --steps N or --no-limit gives more"
code_meaning result site place = []

-- a place of a function, with its line, and this line
abbrev pub code_site_text : Site → (place : ℕ) → List ℕ
code_site_text site place =
    codes "in " ++ left 8 site.name ++ codes " place " ++ right 4 (decimal place) ++ codes "  line "
    ++ right 4 (decimal (instr_line site place))

abbrev pub site_line_text : (text : List ℕ) → Site → (place : ℕ) → List ℕ
site_line_text text site place = codes "\n    " ++ shown_line (line_at text (instr_line site place)) ++ codes "\n"

-- the function whose string words lie there, in a text of these definitions
abbrev pub site_of : (text : List ℕ) → List Definition → (strings : ℕ) → Site
site_of text ds strings = site_among 7 (lines_before text) strings ds

-- that a state comes again, and the place of the call in which it does
abbrev pub code_loop_text : (text : List ℕ) → List Definition → Repeat → List ℕ
code_loop_text text ds r = let site = site_of text ds r.call.strings in
    repeat_text r ++ codes "\nloop   " ++ code_site_text site r.call.place ++ site_line_text text site r.call.place

abbrev pub code_meaning_text : (text : List ℕ) → List Definition → Outcome → Active → Option Repeat → List ℕ
code_meaning_text text ds result call None =
    code_meaning result (site_of text ds call.strings) call.place ++ codes "\n"
code_meaning_text text ds result call (Some r) = code_loop_text text ds r

-- where a run was over, and the number of the step with which it came there; the line there, and what it means
abbrev pub told_code_site : (text : List ℕ) → List Definition → Outcome → Active → (number : ℕ) → Option Repeat → List ℕ
told_code_site text ds result call number again = let site = site_of text ds call.strings in
    codes "at     " ++ code_site_text site call.place ++ codes "  step " ++ decimal number
    ++ site_line_text text site call.place ++ codes "  means: " ++ code_meaning_text text ds result call again

-- A text was told with this answer, or memory was refused for it.
abbrev pub TellsOrNone : List ℕ → (answer : ℕ) → (old new : Outgoing) → (status : ℕ) → Type 0
TellsOrNone text answer old new status = Reported text answer old new status ⊎ ((new ≡ old) × (status ≡ MEMORY))

abbrev pub TellsUnread : (text : List ℕ) → CodeFault → (old new : Outgoing) → (status : ℕ) → Type 0
TellsUnread text (code_fault.Line n) old new status = TellsOrNone (unread_text text n) REFUSED old new status
TellsUnread text code_fault.Memory old new status = (new ≡ old) × (status ≡ MEMORY)

abbrev pub TellsUnloaded : (text : List ℕ) → LoadFault → Option (List ℕ) → (old new : Outgoing) → (status : ℕ) → Type 0
TellsUnloaded text f (Some line) old new status = TellsOrNone (line ++ unloaded_text text f) REFUSED old new status
TellsUnloaded text f None old new status = (new ≡ old) × (status ≡ MEMORY)

-- A text that is no code text is told with its first wrong line. The definitions of others that don't load are told with
-- their fault. Others are run for so many steps at most, as the machine runs them, and have its line and status; and if
-- that is the line of a trap or of the limit, where it was over is told after it, and that it never ends if a state of
-- its image comes again. Or `main` did not begin; or memory was
-- refused.
pub data LocatesCode (steps : ℕ) (text : List ℕ) (ends : RunEnds) (status : ℕ) : Type 0 where
  unread : (n : ℕ) → IsFaultLine text n → ((ds : List Definition) → IsCodeText text ds → ⊥) → HasNotRun ends
      → TellsUnread text (code_fault.Line n) ends.line ends.line_after status → LocatesCode steps text ends status
  unloaded : (ds : List Definition) (f : LoadFault) → IsCodeText text ds → load_fault ds ≡ Some f → HasNotRun ends
      → TellsUnloaded text f (load_line f) ends.line ends.line_after status → LocatesCode steps text ends status
  located : (ds : List Definition) (image : Image) (result : Outcome) (told : Outgoing) (answer : ℕ) (active : Active)
      (made : ℕ) (again : Option Repeat) → IsLoadedFrom ds image → IsCodeText text ds → load_fault ds ≡ None
      → RunGives (machine ds) steps ends.input ends.input_after ends.out ends.out_after result
      → Finishes result ends.line told answer → located_status result ≡ Some answer
      → IsOverAt (machine ds) steps ends.input ends.input_after result active made
      → IfSome again (ComesBack (run image) ends.input ends.input_after)
      → TellsOrNone (told_code_site text ds result active made again) answer told ends.line_after status
      → LocatesCode steps text ends status
  unlocated : (ds : List Definition) (result : Outcome) → IsCodeText text ds → load_fault ds ≡ None
      → RunGives (machine ds) steps ends.input ends.input_after ends.out ends.out_after result
      → Finishes result ends.line ends.line_after status → (located_status result ≡ Some status → ⊥)
      → LocatesCode steps text ends status
  not_begun : (ds : List Definition) (image : Image) (result : Outcome) → IsCodeText text ds → load_fault ds ≡ None
      → IsLoadedFrom ds image → BeginsNot image result → Finishes result ends.line ends.line_after status
      → HasNotRun ends → LocatesCode steps text ends status
  no_memory : HasHeader text ⊎ ((ds : List Definition) × IsCodeText text ds) → HasNotRun ends
      → ends.line_after ≡ ends.line → status ≡ MEMORY → LocatesCode steps text ends status
