-- What the program of a source or of a code text has left of the input.
use Rattle.std.proofs.Common.{◌≡◌, List, [], subst, sym, ℕ}
use Rattle.bword.specs.declared.edition.Edition.{Edition}
use Rattle.bword.specs.ByteEnds.{Incoming}
use Rattle.blang.specs.declared.code.Definition.{Definition}
use Rattle.blang.specs.Compiles.{Compilation, CompilesTo}
use Rattle.blang.specs.Cut.{tokens_from}
use Rattle.blang.specs.Machine.{Image, image_of, machine}
use Rattle.blang.specs.Text.{IsCodeText}
use Rattle.bcode.proofs.FaultLaws.{unique_code}
use Rattle.bmach.specs.Readings.{LeftBySteps}
use Rattle.bmach.proofs.Readings.{left_by, none_at_first}
use Rattle.btools.specs.ProgramsExcluded.{code_in}
use Rattle.btools.specs.Programs.{HasProgram}

module _ (edition : Edition) (source : List ℕ) (r : Compilation) (g : CompilesTo [] (tokens_from edition 1 source) r) (n : ℕ) (i j : Incoming) where
  -- nothing was taken
  pub untaken : j ≡ i → LeftBySteps (machine (code_in edition source r g)) n i j
  untaken still =
      let ds = code_in edition source r g in
      left_by (machine ds) n i j (none_at_first (image_of ds) n i j still)

  -- what the program has left the source's has
  pub program_left : (ds : List Definition) (image : Image) → HasProgram edition source ds image → LeftBySteps (machine ds) n i j → LeftBySteps (machine (code_in edition source r g)) n i j
  program_left ds image has =
      subst (λ (x : List Definition). LeftBySteps (machine x) n i j) (sym (has.code r g).1)

module _ (code : List ℕ) (ds : List Definition) (is : IsCodeText code ds) (n : ℕ) (i j : Incoming) where
  pub untaken_by_code : j ≡ i → LeftBySteps (machine ds) n i j
  untaken_by_code still = left_by (machine ds) n i j (none_at_first (image_of ds) n i j still)

  pub left_by_code : (other : List Definition) → IsCodeText code other → LeftBySteps (machine other) n i j → LeftBySteps (machine ds) n i j
  left_by_code other has = subst (λ (x : List Definition). LeftBySteps (machine x) n i j) (unique_code code other ds has is)
