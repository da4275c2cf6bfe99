-- Promise: the outcome of a source decides what is told of its program, whatever its streams do: program, line and
-- status.
use Rattle.std.specs.Prelude.{◌≡◌, ℕ, List, [], map, Some, None, ◌⊎◌}
use Rattle.bword.specs.declared.edition.Edition.{Edition}
use Rattle.bword.specs.ByteEnds.{Grew, Outgoing, Writes}
use Rattle.blang.specs.declared.code.Definition.{Definition}
use Rattle.blang.specs.declared.run.LoadFault.{LoadFault}
use Rattle.blang.specs.declared.status.TheConstants.{DEVICE, FAULT, MEMORY, REFUSED}
use Rattle.blang.specs.declared.token.Diagnostic.{Diagnostic}
use Rattle.blang.specs.Code.{code_of}
use Rattle.blang.specs.Compiles.{Compilation, CompilesTo}
use Rattle.blang.specs.Cut.{tokens_from}
use Rattle.blang.specs.Layout.{load_fault}
use Rattle.blang.specs.Machine.{Image}
use Rattle.btools.specs.declared.program.ProgramFault.TheVariants as why
use Rattle.btools.specs.Programs.{HasNoProgram, HasProgram, NoProgram, load_line}

module _ (edition : Edition) (source : List ℕ) (r : Compilation) (g : CompilesTo [] (tokens_from edition 1 source) r)
  where
    -- the code of the definitions of the source
    abbrev pub code_in : List Definition
    code_in = map code_of g.definitions

    -- What is excluded of a source that comes to r, of whose faults these lines are told, between any two states of the
    -- end of lines.
    pub record Excluded (lines : Diagnostic → List ℕ) (line line_after : Outgoing) : Type 0 where
      -- a program of a source with a fault, or of other definitions, or of definitions that don't load
      pub program : (ds : List Definition) (image : Image) → HasProgram edition source ds image
          → (r.stop ≡ None) × (ds ≡ code_in) × (load_fault code_in ≡ None)
      -- a fault where there is none, or another one, and a reason why definitions don't load that do, or another one
      pub faulty : (d : Diagnostic) → HasNoProgram edition source (why.Faulty d) → r.stop ≡ Some d
      pub not_loaded : (f : LoadFault) → HasNoProgram edition source (why.Unloaded f)
          → (r.stop ≡ None) × (load_fault code_in ≡ Some f)
      -- 0 without a program, and each other status but these
      pub status : (status : ℕ) → NoProgram edition source lines line line_after status
          → (status ≡ FAULT) ⊎ (status ≡ REFUSED) ⊎ (status ≡ DEVICE) ⊎ (status ≡ MEMORY)
      -- 1 for a source without a fault, or with other lines
      pub fault : NoProgram edition source lines line line_after FAULT
          → (d : Diagnostic) × (r.stop ≡ Some d) × Writes line (lines d) line_after
      -- 132 for definitions that load, or with another line, or with none
      pub unloaded : NoProgram edition source lines line line_after REFUSED
          → (f : LoadFault) × (text : List ℕ) × (load_fault code_in ≡ Some f) × (load_line f ≡ Some text)
          × Writes line text line_after
      -- 133 where no write of a line failed
      pub device : NoProgram edition source lines line line_after DEVICE → Grew line.failures line_after.failures
      -- another status than that of refused memory where the source has a program
      pub loads : (status : ℕ) → NoProgram edition source lines line line_after status → r.stop ≡ None
          → load_fault code_in ≡ None → status ≡ MEMORY

abbrev pub WrongPrograms : Type 0
WrongPrograms =
    (edition : Edition) (source : List ℕ) (r : Compilation) (g : CompilesTo [] (tokens_from edition 1 source) r)
    (lines : Diagnostic → List ℕ) (line line_after : Outgoing) → Excluded edition source r g lines line line_after
