-- Promise: what the contract of a fix excludes, whatever its source and its streams are.
use Rattle.std.specs.Prelude.{◌≡◌, ℕ, ◌*◌, ◌<◌, ◌≤◌, IsTrue, List, ◌++◌, length}
use Rattle.bword.specs.ByteEnds.{Writes}
use Rattle.blang.specs.declared.status.TheConstants.{DEVICE}
use Rattle.bcheck.specs.Checks.{EachOutcome, EditParts, Mends, outcome_status}
use Rattle.bcheck.specs.Counts.{IsTally}
use Rattle.bcheck.specs.Right.{IsRight}
use Rattle.bfix.specs.Due.{IsFinished}
use Rattle.bfix.specs.Fixes.{Fixes, own_setting}
use Rattle.bfix.specs.Keeping.{are_among, kept_of}
use Rattle.bfix.specs.LeftText.{left_text}
use Rattle.bfix.specs.OwnText.{Replacing, own_in, rest_in}

-- the source, and the source with a text in the place of its first file
abbrev pub source_in : Replacing → List ℕ
source_in f = own_in f ++ rest_in f

abbrev pub with_text : Replacing → (text : List ℕ) → List ℕ
with_text f text = text ++ rest_in f

-- What is excluded of a text that was written.
pub record IsSound (f : Replacing) (text : List ℕ) : Type 0 where
  -- one in which a comment or a string of the source is lost, changed, or before one that it stood after
  pub kept : IsTrue (are_among (kept_of f.edition (source_in f)) (kept_of f.edition (with_text f text)))
  -- one of more than twice as many bytes
  pub small : length text ≤ 2 * length (own_in f)
  -- of a source that no edit mends, another text than the source
  pub unmended : ((e : EditParts (source_in f)) → EachOutcome f.edition (source_in f) (λ o. Mends o e) → ⊥)
      → text ≡ own_in f
  -- of a source that is right, another text than the source
  pub right : IsRight f.edition f.files (source_in f) → text ≡ own_in f
  -- one that a `;` is all that lacks, unless as many changes were made as may be
  pub finished : (count : ℕ) × IsFinished (own_setting f) (own_in f) count text
  -- another status than that of what was written
  pub status : EachOutcome f.edition (with_text f text) (λ o. f.status ≡ outcome_status o)
  -- beside it nothing last of what a check tells of that, or another number
  pub left : EachOutcome f.edition (with_text f text) (λ o. (count : ℕ) × IsTally o f.files count
      × (told : List ℕ) × Writes f.line (told ++ left_text (outcome_status o) count) f.line_after)

abbrev pub WrongFixes : Type 0
WrongFixes =
    (f : Replacing) → Fixes f → f.status < DEVICE → (text : List ℕ) × Writes f.out text f.out_after × IsSound f text
