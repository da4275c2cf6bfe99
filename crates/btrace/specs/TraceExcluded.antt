-- Promise: what the contracts of `trace` and `locate` exclude.
use Rattle.std.specs.Prelude.{◌≡◌, ℕ, ◌<◌, List, [], Option, Some, None, codes}
use Rattle.bword.specs.declared.edition.Edition.{Edition}
use Rattle.bword.specs.ByteEnds.{Grew}
use Rattle.blang.specs.declared.code.Definition.{Definition}
use Rattle.blang.specs.declared.run.Outcome.{Outcome}
use Rattle.blang.specs.declared.run.Outcome.TheVariants as outcome
use Rattle.blang.specs.declared.run.Report.TheVariants as report
use Rattle.blang.specs.declared.run.Trap.{Trap}
use Rattle.blang.specs.declared.status.TheConstants.{DEVICE, LIMIT, MEMORY, REFUSED, TRAP}
use Rattle.blang.specs.Compiles.{Compilation, CompilesTo, code_text}
use Rattle.blang.specs.Cut.{tokens_from}
use Rattle.blang.specs.Machine.{machine}
use Rattle.blang.specs.Reports.{HasNotRun, RunEnds, report_text, state_outcome}
use Rattle.blang.specs.Text.{IsCodeText}
use Rattle.bmach.specs.Readings.{LeftBySteps}
use Rattle.bsources.specs.Files.{Files}
use Rattle.btools.specs.FaultPlaces.{fault_lines}
use Rattle.btools.specs.Origins.{Code, IsSuited, NoProgramOf, Origin, Source}
use Rattle.btools.specs.PlaceLines.{CodeText}
use Rattle.btools.specs.ProgramsExcluded.{code_in}
use Rattle.btrace.specs.Locates.{Locates}
use Rattle.btrace.specs.Traces.{Traces}
use Rattle.bwatch.specs.declared.trail.TraceRows.{TraceRows}

-- The source has no fault, and its code is that of these definitions.
pub record IsSourceOf (edition : Edition) (source : List ℕ) (ds : List Definition) : Type 0 where
  pub compilation : Compilation
  pub goes : CompilesTo [] (tokens_from edition 1 source) compilation
  pub clean : compilation.stop ≡ None
  pub text : IsCodeText (code_text edition compilation) ds

-- They are those of the source, or of the code text.
abbrev pub IsCodeIn : Origin → (source : List ℕ) → List Definition → Type 0
IsCodeIn (Source edition) source ds = IsSourceOf edition source ds
IsCodeIn (Code c) source ds = IsCodeText c.code ds

-- the run of a program is at this outcome after so many steps, whatever it reads
abbrev pub ComesAlways : List Definition → (steps : ℕ) → Outcome → Type 0
ComesAlways ds steps result = (input : List ℕ) → state_outcome (machine ds input steps) ≡ result

-- the status of an outcome
abbrev pub status_of : Outcome → ℕ
status_of (outcome.Exit n) = n
status_of (outcome.Trap kind) = TRAP
status_of outcome.Limit = LIMIT
status_of outcome.Device = DEVICE
status_of outcome.Memory = MEMORY

module _ (files : Files) where
  pub record TracesExcluded : Type 0 where
    -- another status than that of the machine after just so many steps, as the limit for a trap
    pub other_status : (ds : List Definition) (steps : ℕ) (shown : TraceRows) (name : Option (List ℕ)) (result : Outcome)
        (status : ℕ) → ComesAlways ds 0 outcome.Limit → ComesAlways ds steps result → (status ≡ status_of result → ⊥)
        → status < REFUSED → (origin : Origin) (source : List ℕ) (ends : RunEnds) → IsCodeIn origin source ds
        → Traces origin source steps shown files name ends status → ⊥
    -- the status of a run whose trace was not written
    pub unwritten : (ds : List Definition) (steps : ℕ) (shown : TraceRows) (name : Option (List ℕ))
        (status : ℕ) → status < REFUSED → ComesAlways ds 0 outcome.Limit → (origin : Origin)
        → (source before : List ℕ) (ends : RunEnds) → IsCodeIn origin source ds → ends.out.written ≡ Some before
        → ends.out_after.written ≡ Some before → Traces origin source steps shown files name ends status → ⊥
    -- want of memory told where a read failed and no write was refused memory
    pub read_failed : (origin : Origin) (source : List ℕ) (steps : ℕ) (shown : TraceRows)
        (name : Option (List ℕ)) (ends : RunEnds) → (ends.input_after.failures ≡ ends.input.failures → ⊥)
        → (Grew ends.out.refusals ends.out_after.refusals → ⊥)
        → Traces origin source steps shown files name ends MEMORY → ⊥
    -- anything but why there is no program, where a file of lines or of names doesn't suit the code
    pub unsuited : (origin : Origin) (source : List ℕ) → (IsSuited origin source → ⊥) → (steps : ℕ)
        (shown : TraceRows) (name : Option (List ℕ)) (ends : RunEnds) (status : ℕ)
        → Traces origin source steps shown files name ends status
        → NoProgramOf origin source (fault_lines files) ends.line ends.line_after status × HasNotRun ends
    -- whatever the status, as where memory was refused: a byte taken that no step asked for
    pub unasked : (edition : Edition) (source : List ℕ) (r : Compilation)
        (g : CompilesTo [] (tokens_from edition 1 source) r) (steps : ℕ) (shown : TraceRows)
        (name : Option (List ℕ)) (ends : RunEnds) (status : ℕ)
        → Traces (Source edition) source steps shown files name ends status
        → LeftBySteps (machine (code_in edition source r g)) steps ends.input ends.input_after
    pub unasked_by_code : (c : CodeText) (ds : List Definition) → IsCodeText c.code ds → (source : List ℕ) (steps : ℕ)
        (shown : TraceRows) (name : Option (List ℕ)) (ends : RunEnds) (status : ℕ)
        → Traces (Code c) source steps shown files name ends status
        → LeftBySteps (machine ds) steps ends.input ends.input_after

  -- no run of a program has this text of lines and this status
  abbrev pub NoPlace : List Definition → (steps status : ℕ) → List ℕ → Type 0
  NoPlace ds steps status text =
      (origin : Origin) (source : List ℕ) (ends : RunEnds) → IsCodeIn origin source ds
      → ends.line.written ≡ Some [] → ends.line_after.written ≡ Some text
      → Locates origin source files steps ends status → ⊥

  pub record LocatesExcluded : Type 0 where
    -- the line of the limit or of a trap without a place
    pub limit_alone : (ds : List Definition) (steps : ℕ) → ComesAlways ds 0 outcome.Limit
        → NoPlace ds steps LIMIT (codes "limit\n")
    pub trap_alone : (ds : List Definition) (steps : ℕ) (kind : Trap) → ComesAlways ds 0 outcome.Limit
        → NoPlace ds steps TRAP (report_text (report.Trap kind))
    -- another status than that of the machine after just so many steps
    pub other_status : (ds : List Definition) (steps : ℕ) (result : Outcome) (status : ℕ)
        → ComesAlways ds 0 outcome.Limit → ComesAlways ds steps result → (status ≡ status_of result → ⊥)
        → status < REFUSED → (origin : Origin)
        → (source : List ℕ) (ends : RunEnds) → IsCodeIn origin source ds
        → Locates origin source files steps ends status → ⊥
    -- want of memory told where a read failed
    pub read_failed : (origin : Origin) (source : List ℕ) (steps : ℕ) (ends : RunEnds)
        → (ends.input_after.failures ≡ ends.input.failures → ⊥) → Locates origin source files steps ends MEMORY → ⊥
    -- anything but why there is no program, where a file of lines or of names doesn't suit the code
    pub unsuited : (origin : Origin) (source : List ℕ) → (IsSuited origin source → ⊥) → (steps : ℕ) (ends : RunEnds)
        (status : ℕ) → Locates origin source files steps ends status
        → NoProgramOf origin source (fault_lines files) ends.line ends.line_after status × HasNotRun ends
    -- whatever the status, as where memory was refused: a byte taken that no step asked for
    pub unasked : (edition : Edition) (source : List ℕ) (r : Compilation)
        (g : CompilesTo [] (tokens_from edition 1 source) r) (steps : ℕ) (ends : RunEnds) (status : ℕ)
        → Locates (Source edition) source files steps ends status
        → LeftBySteps (machine (code_in edition source r g)) steps ends.input ends.input_after
    pub unasked_by_code : (c : CodeText) (ds : List Definition) → IsCodeText c.code ds → (source : List ℕ) (steps : ℕ)
        (ends : RunEnds) (status : ℕ) → Locates (Code c) source files steps ends status
        → LeftBySteps (machine ds) steps ends.input ends.input_after
