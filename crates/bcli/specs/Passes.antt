-- Promise: what comes of files with each of which the same is done, one after another.
use Rattle.std.specs.Prelude.{◌≡◌, ℕ, ◌==◌, ◌||◌, Bool, true, false, List, [], ◌∷◌, ◌++◌, if◌then◌else◌}
use Rattle.clap.specs.Words.{Text}
use Rattle.bword.specs.ByteEnds.{Outgoing}
use Rattle.blang.specs.Reports.{RunEnds}
use Rattle.blang.specs.declared.status.TheConstants.{DONE, FAULT}

-- after this status the next file is looked at
abbrev pub goes_on : (status : ℕ) → Bool
goes_on status = status == DONE || status == FAULT

-- the status with that of a file more: 0 as soon as one has it
abbrev pub answer_of : (before found : ℕ) → ℕ
answer_of before found = if found == DONE then found else before

-- It was done with each of these files, and each was such that the next one was looked at.
pub data Passes (does : Text → RunEnds → ℕ → Type 0) : (files : List Text) → RunEnds → (status : ℕ) → Type 0 where
  none : (files : List Text) (ends : RunEnds) (status : ℕ) → files ≡ [] → ends.out_after ≡ ends.out
      → ends.line_after ≡ ends.line → status ≡ FAULT → Passes does files ends status
  more : (files : List Text) (ends : RunEnds) (status : ℕ) (before : List Text) (file : Text) (found now : ℕ)
      (out line : Outgoing) → files ≡ before ++ file ∷ []
      → Passes does before (record ends { out_after = out; line_after = line }) found
      → does file (record ends { out = out; line = line }) now → goes_on now ≡ true → status ≡ answer_of found now
      → Passes does files ends status

-- It was done with all of them; or one ended it, with its status.
pub data PassesAll (does : Text → RunEnds → ℕ → Type 0) (files : List Text) (ends : RunEnds) (status : ℕ) : Type 0 where
  all : Passes does files ends status → PassesAll does files ends status
  stopped : (before : List Text) (file : Text) (after : List Text) (found : ℕ) (out line : Outgoing)
      → files ≡ before ++ file ∷ after → Passes does before (record ends { out_after = out; line_after = line }) found
      → does file (record ends { out = out; line = line }) status → goes_on status ≡ false
      → PassesAll does files ends status
