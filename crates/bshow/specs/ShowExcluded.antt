-- Promise: what no page is, of each source.
use Rattle.std.specs.Prelude.{◌≡◌, ◌⊎◌, ℕ, List, [], Some, None}
use Rattle.bword.specs.declared.edition.Edition.{Edition}
use Rattle.bword.specs.ByteEnds.{Grew, Writes}
use Rattle.blang.specs.declared.run.LoadFault.{LoadFault}
use Rattle.blang.specs.declared.status.TheConstants.{DEVICE, DONE, FAULT, REFUSED}
use Rattle.blang.specs.declared.token.Diagnostic.{Diagnostic}
use Rattle.blang.specs.Compiles.{Compilation, CompilesTo}
use Rattle.blang.specs.Cut.{tokens_from}
use Rattle.blang.specs.Layout.{load_fault}
use Rattle.blang.specs.Machine.{machine}
use Rattle.blang.specs.Reports.{RunEnds}
use Rattle.bmach.specs.Readings.{LeftBySteps}
use Rattle.btools.specs.ProgramsExcluded.{code_in}
use Rattle.btools.specs.FaultPlaces.{fault_lines}
use Rattle.btools.specs.Origins.{Source}
use Rattle.btools.specs.Programs.{load_line}
use Rattle.bshow.specs.Shows.{Asked, Shows, page_text}

module _ (edition : Edition) (source : List ℕ) (r : Compilation) (g : CompilesTo [] (tokens_from edition 1 source) r)
    (asked : Asked) (ends : RunEnds) where
  -- What is excluded of a page.
  pub record WrongPages : Type 0 where
    -- 0 for a source with a fault, or for what doesn't load, or without a page
    pub done : Shows (Source edition) source asked ends DONE
        → (r.stop ≡ None) × (load_fault (code_in edition source r g) ≡ None)
        × ((rows sentence program facts : List ℕ)
        × Writes ends.out (page_text rows sentence program facts) ends.out_after)
    -- a failed read that isn't told by 133, or a page of its run
    pub unread : (status : ℕ) → Shows (Source edition) source asked ends status
        → (ends.input_after.failures ≡ ends.input.failures → ⊥) → (status ≡ DEVICE) × (ends.out_after ≡ ends.out)
    -- 133 where no read and no write failed
    pub device : Shows (Source edition) source asked ends DEVICE
        → Grew ends.input.failures ends.input_after.failures ⊎ Grew ends.out.failures ends.out_after.failures
        ⊎ Grew ends.line.failures ends.line_after.failures
    -- 1 for a source without a fault, or with another line or place, or with anything else written or read
    pub fault : Shows (Source edition) source asked ends FAULT
        → ((d : Diagnostic) × (r.stop ≡ Some d) × Writes ends.line (fault_lines asked.files d) ends.line_after)
        × (ends.out_after ≡ ends.out) × (ends.input_after ≡ ends.input)
    -- 132 for definitions that load, or with another line, or with anything else written or read
    pub unloaded : Shows (Source edition) source asked ends REFUSED
        → ((f : LoadFault) × (text : List ℕ) × (load_fault (code_in edition source r g) ≡ Some f)
        × (load_line f ≡ Some text) × Writes ends.line text ends.line_after)
        × (ends.out_after ≡ ends.out) × (ends.input_after ≡ ends.input)
    -- whatever the status, as where memory was refused: a byte taken that no step asked for
    pub unasked : (status : ℕ) → Shows (Source edition) source asked ends status
        → LeftBySteps (machine (code_in edition source r g)) asked.steps ends.input ends.input_after

abbrev pub NoPages : Type 0
NoPages =
    (edition : Edition) (source : List ℕ) (r : Compilation) (g : CompilesTo [] (tokens_from edition 1 source) r)
    (asked : Asked) (ends : RunEnds) → WrongPages edition source r g asked ends
