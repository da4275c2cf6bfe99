-- Promise: where a missing semicolon is all that a source lacks.
use Rattle.std.specs.Prelude.{◌≡◌, ◌⊎◌, ℕ, ◌+◌, ◌*◌, ◌≤◌, ◌==◌, ◌||◌, nat_lt, Bool, IsTrue, true, List, ◌++◌, length}
use Rattle.std.specs.List.{All}
use Rattle.bword.specs.declared.edition.Edition.{Edition}
use Rattle.bsources.specs.Files.{Files}
use Rattle.bcheck.specs.Checks.{EachOutcome}
use Rattle.bcheck.specs.Right.{IsRight}
use Rattle.bcheck.specs.Boundaries.{fault_boundaries, semicolon, with_semicolon}
use Rattle.bcheck.specs.Spares.{spares_at}
use Rattle.bfix.specs.Keeping.{are_among, kept_of}
use Rattle.bfix.specs.declared.due.TheConstants.{TRIED_BYTES}
use Rattle.bfix.specs.declared.fixing.TheConstants.{LOOKED_BYTES, MOST_CHANGES}

-- what a text stands in: its edition and files, what follows it, and the most bytes that it may have
pub record Setting : Type 0 where
  pub edition : Edition
  pub files : Files
  pub rest : List ℕ
  pub most : ℕ

-- With a `;` at this place a text is right. It is small enough, has each comment and string, and there is no choice.
pub record IsDue (s : Setting) (text : List ℕ) (place : ℕ) : Type 0 where
  pub within : place ≤ length text
  pub small : length (with_semicolon text place) ≤ s.most
  pub keeps : IsTrue (are_among (kept_of s.edition (text ++ s.rest))
      (kept_of s.edition (with_semicolon text place ++ s.rest)))
  pub right : IsRight s.edition s.files (with_semicolon text place ++ s.rest)
  pub spared : spares_at s.edition (text ++ s.rest) place 0 semicolon ≡ true

-- None is due at these places of a text, unless there are too many for all to be tried.
abbrev pub NoneDue : Setting → (text places : List ℕ) → Type 0
NoneDue s text places =
    length places * length (text ++ s.rest) ≤ TRIED_BYTES → All (λ place. IsDue s text place → ⊥) places

-- None is due on the line of the first fault.
abbrev pub IsSettled : Setting → List ℕ → Type 0
IsSettled s text =
    let whole = text ++ s.rest in
    EachOutcome s.edition whole (λ o. NoneDue s text (fault_boundaries s.edition whole o.stop))

-- So many changes are all that are made of a text of so many bytes: a thousand, or those after which as many bytes as
-- may be were looked at.
abbrev pub are_all : (count len : ℕ) → Bool
are_all count len = (count == MOST_CHANGES) || nat_lt LOOKED_BYTES ((count + 1) * len)

-- No `;` is all that lacks any more, or as many changes were made as may be.
abbrev pub IsFinished : Setting → (own : List ℕ) → (count : ℕ) → List ℕ → Type 0
IsFinished s own count text = (are_all count (length own) ≡ true) ⊎ IsSettled s text
