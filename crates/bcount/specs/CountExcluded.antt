-- Promise: what the contract of `count` excludes.
use Rattle.std.specs.Prelude.{◌≡◌, ℕ, List, [], ◌∷◌, codes}
use Rattle.bword.specs.declared.edition.Edition.{Edition}
use Rattle.bword.specs.ByteEnds.{Incoming}
use Rattle.blang.specs.declared.code.Definition.{Definition}
use Rattle.blang.specs.declared.code.Definition.TheVariants as definition
use Rattle.blang.specs.declared.code.Instr.TheVariants as instr
use Rattle.blang.specs.declared.run.Outcome.{Outcome}
use Rattle.blang.specs.declared.run.Outcome.TheVariants as outcome
use Rattle.blang.specs.declared.status.TheConstants.{DEVICE}
use Rattle.blang.specs.Compiles.{Compilation, CompilesTo}
use Rattle.blang.specs.Cut.{tokens_from}
use Rattle.blang.specs.Machine.{image_of, machine}
use Rattle.blang.specs.Reports.{HasNotRun, RunEnds}
use Rattle.blang.specs.Text.{IsCodeText}
use Rattle.bmach.specs.Readings.{LeftBySteps}
use Rattle.btools.specs.FaultPlaces.{fault_lines}
use Rattle.btools.specs.Origins.{Code, IsSuited, NoProgramOf, Source}
use Rattle.btools.specs.PlaceLines.{CodeText}
use Rattle.btools.specs.ProgramsExcluded.{code_in}
use Rattle.btools.specs.Functions.{functions_of}
use Rattle.bwatch.specs.Watches.{Watches}
use Rattle.bcount.specs.Counts.{AreCounts, Asked, Counts}

-- the code of `main(){}`, which halts with its second step
abbrev pub nothing : List Definition
nothing = definition.Function (record {
  name = codes "main";
  parameters = 0;
  frame = 0;
  targets = [];
  strings = [];
  code = instr.Constant 0 ∷ instr.Return ∷ [];
}) ∷ []

-- whatever it reads, the counts of its first steps are these alone
abbrev pub CountsOnly : (steps : ℕ) → Outcome → List (List ℕ) → Type 0
CountsOnly steps result tallies =
    (i j : Incoming) (made : ℕ) (other : List (List ℕ))
    → Watches (image_of nothing).functions (machine nothing) steps i j result made (AreCounts (functions_of nothing) other)
    → other ≡ tallies

pub record CountsExcluded : Type 0 where
  -- a step before the first one
  pub no_step : CountsOnly 0 outcome.Limit ((0 ∷ 0 ∷ []) ∷ [])
  -- the instruction after the step, the step twice, or none
  pub one_step : CountsOnly 1 outcome.Limit ((1 ∷ 0 ∷ []) ∷ [])
  -- the step that halts left out, as one that was made after the halt
  pub last_step : CountsOnly 2 (outcome.Exit 0) ((1 ∷ 1 ∷ []) ∷ [])
  -- where a read failed: another status than 133, or something that is written
  pub read_failed : (asked : Asked) (source : List ℕ) (ends : RunEnds) (status : ℕ)
      → (ends.input_after.failures ≡ ends.input.failures → ⊥) → Counts asked source ends status
      → (status ≡ DEVICE) × (ends.out_after ≡ ends.out)
  -- anything but why there is no program, where a file of lines or of names doesn't suit the code
  pub unsuited : (asked : Asked) (source : List ℕ) → (IsSuited asked.origin source → ⊥) → (ends : RunEnds) (status : ℕ)
      → Counts asked source ends status
      → NoProgramOf asked.origin source (fault_lines asked.files) ends.line ends.line_after status × HasNotRun ends
  -- whatever the status, as where memory was refused: a byte taken that no step asked for
  pub unasked : (edition : Edition) (source : List ℕ) (r : Compilation)
      (g : CompilesTo [] (tokens_from edition 1 source) r) (asked : Asked) (ends : RunEnds) (status : ℕ)
      → Counts (record asked { origin = Source edition }) source ends status
      → LeftBySteps (machine (code_in edition source r g)) asked.steps ends.input ends.input_after
  pub unasked_by_code : (c : CodeText) (ds : List Definition) → IsCodeText c.code ds → (source : List ℕ)
      (asked : Asked) (ends : RunEnds) (status : ℕ) → Counts (record asked { origin = Code c }) source ends status
      → LeftBySteps (machine ds) asked.steps ends.input ends.input_after
