-- Promise: what no page of a careful run is, of each source.
use Rattle.std.specs.Prelude.{◌≡◌, ◌⊎◌, ℕ, List, [], Some, None}
use Rattle.bword.specs.declared.edition.Edition.{Edition}
use Rattle.bword.specs.ByteEnds.{Grew, Kept, Writes, outgoing_of}
use Rattle.blang.specs.declared.code.Definition.{Definition}
use Rattle.blang.specs.declared.run.LoadFault.{LoadFault}
use Rattle.blang.specs.declared.run.Outcome.{Outcome}
use Rattle.blang.specs.declared.status.TheConstants.{DEVICE, DONE, FAULT, REFUSED}
use Rattle.blang.specs.declared.token.Diagnostic.{Diagnostic}
use Rattle.blang.specs.Compiles.{Compilation, CompilesTo}
use Rattle.blang.specs.Cut.{tokens_from}
use Rattle.blang.specs.Layout.{load_fault}
use Rattle.blang.specs.Machine.{Image}
use Rattle.blang.specs.Reports.{ComesTo, RunEnds}
use Rattle.bmach.specs.Stepping.{BeginsNot}
use Rattle.btools.specs.ProgramsExcluded.{code_in}
use Rattle.btools.specs.FaultPlaces.{fault_lines}
use Rattle.btools.specs.Origins.{Source}
use Rattle.btools.specs.FrameNames.{HasNames}
use Rattle.btools.specs.Programs.{HasProgram, load_line, nothing_written}
use Rattle.btools.specs.declared.names.Frame.{Frame}
use Rattle.bcareful.specs.Runs.{careful_machine, finds_wraps}
use Rattle.bcareful.specs.declared.care.Care.{Care}
use Rattle.bshow.specs.CarefulPages.{ShowsCarefully}
use Rattle.bshow.specs.Shows.{Asked, page_text}

-- The program of the source was run in silence, to its end, to the limit or to its first finding; or it did not begin.
pub record WasMade (edition : Edition) (source : List ℕ) (care : Care) (steps : ℕ) (ends : RunEnds) : Type 0 where
  pub ds : List Definition
  pub image : Image
  pub program : HasProgram edition source ds image
  pub frames : List Frame
  pub result : Outcome
  pub output : Kept
  pub came : BeginsNot image result ⊎ (HasNames edition source frames
      × ComesTo (careful_machine ds frames (finds_wraps care)) steps ends.input ends.input_after nothing_written
      (outgoing_of output) result)

module _ (edition : Edition) (source : List ℕ) (r : Compilation) (g : CompilesTo [] (tokens_from edition 1 source) r)
    (care : Care) (asked : Asked) (ends : RunEnds) where
  -- What is excluded of a page of a careful run.
  pub record WrongCarefulPages : Type 0 where
    -- 0 for a source with a fault, or for what doesn't load, or without a page
    pub done : ShowsCarefully care (Source edition) source asked ends DONE
        → (r.stop ≡ None) × (load_fault (code_in edition source r g) ≡ None)
        × ((rows sentence program facts : List ℕ)
        × Writes ends.out (page_text rows sentence program facts) ends.out_after)
    -- 0 for a run that was broken off, as where memory was refused or a read failed
    pub broken : ShowsCarefully care (Source edition) source asked ends DONE
        → WasMade edition source care asked.steps ends
    -- 133 where no read and no write failed
    pub device : ShowsCarefully care (Source edition) source asked ends DEVICE
        → Grew ends.input.failures ends.input_after.failures ⊎ Grew ends.out.failures ends.out_after.failures
        ⊎ Grew ends.line.failures ends.line_after.failures
    -- 1 for a source without a fault, or with another line or place, or with anything else written
    pub fault : ShowsCarefully care (Source edition) source asked ends FAULT
        → ((d : Diagnostic) × (r.stop ≡ Some d) × Writes ends.line (fault_lines asked.files d) ends.line_after)
        × (ends.out_after ≡ ends.out)
    -- 132 for definitions that load, or with another line, or with anything else written
    pub unloaded : ShowsCarefully care (Source edition) source asked ends REFUSED
        → ((f : LoadFault) × (text : List ℕ) × (load_fault (code_in edition source r g) ≡ Some f)
        × (load_line f ≡ Some text) × Writes ends.line text ends.line_after)
        × (ends.out_after ≡ ends.out)

abbrev pub NoCarefulPages : Type 0
NoCarefulPages =
    (edition : Edition) (source : List ℕ) (r : Compilation) (g : CompilesTo [] (tokens_from edition 1 source) r)
    (care : Care) (asked : Asked) (ends : RunEnds) → WrongCarefulPages edition source r g care asked ends
