-- Promise: a source that is right.
use Rattle.std.specs.Prelude.{◌≡◌, List, ℕ}
use Rattle.bword.specs.declared.edition.Edition.{Edition}
use Rattle.blang.specs.Trees.{Definition}
use Rattle.blang.specs.WellFormed.{AllFormed}
use Rattle.blang.specs.declared.status.TheConstants.{DONE}
use Rattle.blint.specs.SourceTokens.{IsSource}
use Rattle.blint.specs.Warns.{AreNoticesIn, IsDueBy}
use Rattle.blint.specs.declared.warnings.Warning.{Warning}
use Rattle.bmatch.specs.declared.noticing.Notice.{Notice}
use Rattle.bmatch.specs.declared.tree.TokenPlace.{TokenPlace}
use Rattle.bsources.specs.Files.{Files}
use Rattle.bcheck.specs.Checks.{EachOutcome, outcome_status}

-- It compiles and loads, and no rule says anything of a token of its first file.
pub record IsRight (edition : Edition) (files : Files) (source : List ℕ) : Type 0 where
  pub done : EachOutcome edition source (λ o. outcome_status o ≡ DONE)
  pub quiet : (ds : List Definition) → AllFormed ds → IsSource edition source ds → (notices : List Notice)
      → AreNoticesIn edition source ds notices → (at : TokenPlace) (w : Warning)
      → IsDueBy edition files source notices at w → ⊥
