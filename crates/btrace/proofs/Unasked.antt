-- No byte is taken of the input that no step asked for.
use Rattle.std.proofs.Common.{ℕ, List, [], Option}
use Rattle.bword.specs.declared.edition.Edition.{Edition}
use Rattle.bword.specs.ByteEnds.{outgoing_of}
use Rattle.blang.specs.declared.code.Definition.{Definition}
use Rattle.blang.specs.Compiles.{Compilation, CompilesTo}
use Rattle.blang.specs.Cut.{tokens_from}
use Rattle.blang.specs.Machine.{machine}
use Rattle.blang.specs.Reports.{RunEnds}
use Rattle.blang.specs.Text.{IsCodeText}
use Rattle.bmach.specs.Readings.{LeftBySteps}
use Rattle.bmach.proofs.Readings.{left_by, run_left}
use Rattle.bsources.specs.Files.{Files}
use Rattle.btools.specs.Origins.{Code, Source}
use Rattle.btools.specs.PlaceLines.{CodeText}
use Rattle.btools.specs.ProgramsExcluded.{code_in}
use Rattle.btools.specs.Programs.{nothing_written}
use Rattle.btools.proofs.Unasked.{left_by_code, program_left, untaken, untaken_by_code}
use Rattle.btrace.specs.Locates as locates
use Rattle.btrace.specs.Locates.{Locates}
use Rattle.btrace.specs.Traces as traces
use Rattle.btrace.specs.Traces.{Traces}
use Rattle.bwatch.specs.declared.trail.TraceRows.{TraceRows}

module _ (edition : Edition) (source : List ℕ) (r : Compilation) (g : CompilesTo [] (tokens_from edition 1 source) r) (steps : ℕ) (files : Files) (ends : RunEnds) (status : ℕ) where
  pub by_trace : (shown : TraceRows) (name : Option (List ℕ)) → Traces (Source edition) source steps shown files name ends status → LeftBySteps (machine (code_in edition source r g)) steps ends.input ends.input_after
  by_trace shown name (traces.traced ds image places frames which result made again text told has lined known named back w reported tells) =
      program_left edition source r g steps ends.input ends.input_after ds image has
      (run_left (machine ds) steps ends.input ends.input_after nothing_written (outgoing_of w.output) result w.gives)
  by_trace shown name (traces.not_begun ds image which result has suits named never finishes quiet) = untaken edition source r g steps ends.input ends.input_after quiet.unread
  by_trace shown name (traces.unnamed ds image has suits unknown reported quiet) = untaken edition source r g steps ends.input ends.input_after quiet.unread
  by_trace shown name (traces.stopped none quiet) = untaken edition source r g steps ends.input ends.input_after quiet.unread
  by_trace shown name (traces.no_memory ds image has suits still same read e) =
      program_left edition source r g steps ends.input ends.input_after ds image has (left_by (machine ds) steps ends.input ends.input_after read)

  pub by_place : Locates (Source edition) source files steps ends status → LeftBySteps (machine (code_in edition source r g)) steps ends.input ends.input_after
  by_place (locates.located told ds image frames places result answer active made again has named lined gives finishes at over comes tells) =
      program_left edition source r g steps ends.input ends.input_after ds image has
      (run_left (machine ds) steps ends.input ends.input_after ends.out ends.out_after result gives)
  by_place (locates.unlocated ds image result has suits gives finishes unplaced) =
      program_left edition source r g steps ends.input ends.input_after ds image has
      (run_left (machine ds) steps ends.input ends.input_after ends.out ends.out_after result gives)
  by_place (locates.not_begun ds image result has suits never finishes quiet) = untaken edition source r g steps ends.input ends.input_after quiet.unread
  by_place (locates.stopped none quiet) = untaken edition source r g steps ends.input ends.input_after quiet.unread

module _ (c : CodeText) (ds : List Definition) (is : IsCodeText c.code ds) (source : List ℕ) (steps : ℕ) (files : Files) (ends : RunEnds) (status : ℕ) where
  -- the same of the machine of a code text
  pub by_code : (shown : TraceRows) (name : Option (List ℕ)) → Traces (Code c) source steps shown files name ends status → LeftBySteps (machine ds) steps ends.input ends.input_after
  by_code shown name (traces.traced other image places frames which result made again text told has lined known named back w reported tells) =
      left_by_code c.code ds is steps ends.input ends.input_after other has.text (run_left (machine other) steps ends.input ends.input_after nothing_written (outgoing_of w.output) result w.gives)
  by_code shown name (traces.not_begun other image which result has suits named never finishes quiet) = untaken_by_code c.code ds is steps ends.input ends.input_after quiet.unread
  by_code shown name (traces.unnamed other image has suits unknown reported quiet) = untaken_by_code c.code ds is steps ends.input ends.input_after quiet.unread
  by_code shown name (traces.stopped none quiet) = untaken_by_code c.code ds is steps ends.input ends.input_after quiet.unread
  by_code shown name (traces.no_memory other image has suits still same read e) = left_by_code c.code ds is steps ends.input ends.input_after other has.text (left_by (machine other) steps ends.input ends.input_after read)

  pub place_by_code : Locates (Code c) source files steps ends status → LeftBySteps (machine ds) steps ends.input ends.input_after
  place_by_code (locates.located told other image frames places result answer active made again has named lined gives finishes at over comes tells) =
      left_by_code c.code ds is steps ends.input ends.input_after other has.text (run_left (machine other) steps ends.input ends.input_after ends.out ends.out_after result gives)
  place_by_code (locates.unlocated other image result has suits gives finishes unplaced) =
      left_by_code c.code ds is steps ends.input ends.input_after other has.text (run_left (machine other) steps ends.input ends.input_after ends.out ends.out_after result gives)
  place_by_code (locates.not_begun other image result has suits never finishes quiet) = untaken_by_code c.code ds is steps ends.input ends.input_after quiet.unread
  place_by_code (locates.stopped none quiet) = untaken_by_code c.code ds is steps ends.input ends.input_after quiet.unread
