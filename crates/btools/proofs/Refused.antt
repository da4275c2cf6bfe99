-- What is told of a source that has no program.
use Rattle.std.proofs.Common.{◌≡◌, ◌∙◌, ℕ, List, ◌++◌, Option, Some, ap, subst, sym}
use Rattle.std.specs.Prelude.{option_map}
use Rattle.bword.specs.ByteEnds.{Outgoing}
use Rattle.blang.specs.declared.status.TheConstants.{FAULT}
use Rattle.blang.specs.declared.token.Diagnostic.{Diagnostic}
use Rattle.blang.specs.Compiles.{line_of}
use Rattle.blang.specs.Reports.{Reported}
use Rattle.bsources.specs.Files.{Files, beyond_first, line_shown}
use Rattle.bsources.specs.declared.files.FileLine.{FileLine}
use Rattle.btools.specs.FaultPlaces.{fault_lines, place_line, place_text}
use Rattle.btools.specs.Origins.{Code, HasNoProgramOf, Origin, Source}
use Rattle.btools.specs.Programs.{TellsFault}
use Rattle.btools.specs.declared.program.ProgramFault.{ProgramFault}
use Rattle.btools.specs.declared.program.ProgramFault.TheVariants as why

-- Memory may be refused, whatever is read.
pub no_memory : (origin : Origin) (source : List ℕ) → HasNoProgramOf origin source why.Memory
no_memory (Source edition) source = tt
no_memory (Code c) source = tt

-- the lines of a fault that lies in a file after the first one
module _ (files : Files) (d : Diagnostic) (found : Option FileLine) (same : option_map line_shown found ≡ beyond_first files d.line) where
  beyond : (at : FileLine) → found ≡ Some at → fault_lines files d ≡ line_of d ++ place_line (line_shown at)
  beyond at some = ap (λ place. line_of d ++ place_text place) (sym same ∙ ap (option_map line_shown) some)

  pub told_both : (fault : ProgramFault) → fault ≡ why.Faulty d → (line line_after : Outgoing) (status : ℕ) (at : FileLine) (text : List ℕ) → found ≡ Some at → text ≡ line_of d ++ place_line (line_shown at) → Reported text FAULT line line_after status
      → TellsFault (fault_lines files) fault line line_after status
  told_both fault is line line_after status at text some text_is told =
      subst (λ (f : ProgramFault). TellsFault (fault_lines files) f line line_after status) (sym is)
      (subst (λ t. Reported t FAULT line line_after status) (text_is ∙ sym (beyond at some)) told)
