-- Promise: how many faults or warnings a check tells of a source.
use Rattle.std.specs.Prelude.{◌≡◌, ◌+◌, ◌-◌, ℕ, List, length, take, Option, Some, None}
use Rattle.bword.specs.declared.edition.Edition.{Edition}
use Rattle.blang.specs.declared.run.LoadFault.{LoadFault}
use Rattle.blang.specs.declared.run.LoadFault.TheVariants as fault
use Rattle.blang.specs.declared.token.Diagnostic.{Diagnostic}
use Rattle.bsources.specs.Files.{Files}
use Rattle.bcheck.specs.Checks.{Outcome, fault_in}
use Rattle.bcheck.specs.RuleWarnings.{TellsWarnings}
use Rattle.bcheck.specs.Sections.{StopsEach, at_fault, sections}
use Rattle.bcheck.specs.UndefinedNames.{told_subjects}
use Rattle.bcheck.specs.declared.finding.TheConstants.{MOST_FINDINGS}

-- of a source whose first fault is on this line: that one, and one for each section after it that is at fault alone, up
-- to so many
abbrev pub IsCountFrom : Edition → (line : ℕ) → (source : List ℕ) → (count : ℕ) → Type 0
IsCountFrom edition line source count =
    (stops : List (Option Diagnostic)) × StopsEach edition (sections edition line source) stops
    × (count ≡ 1 + length (take (MOST_FINDINGS - 1) (at_fault (sections edition line source) stops)))

-- as many warnings as tell what the rules say
abbrev pub IsCountOfWarnings : Edition → Files → (source : List ℕ) → (count : ℕ) → Type 0
IsCountOfWarnings edition files source count =
    (told : List (List ℕ × List ℕ)) × TellsWarnings edition files source told × (count ≡ length told)

-- Of a fault of loading it is one, of names that nothing defines one for each, and of what loads as many warnings.
abbrev pub IsTallyOf : Outcome → Files → Option Diagnostic → Option LoadFault → (count : ℕ) → Type 0
IsTallyOf o files (Some d) f count = IsCountFrom o.edition d.line o.source count
IsTallyOf o files None (Some (fault.Undefined name)) count = count ≡ length (told_subjects o.definitions)
IsTallyOf o files None (Some fault.NoMain) count = IsCountOfWarnings o.edition files o.source count
IsTallyOf o files None (Some f) count = count ≡ 1
IsTallyOf o files None None count = IsCountOfWarnings o.edition files o.source count

-- so many faults or warnings are told of a source of these files that comes to this
abbrev pub IsTally : Outcome → Files → (count : ℕ) → Type 0
IsTally o files count = IsTallyOf o files o.stop (fault_in o) count
