-- Promise: a run of a program with its copies.
use Rattle.std.specs.Prelude.{◌≡◌, ℕ, ◌+◌, List, [], ◌∷◌, ◌++◌, Option, Some, None, drop, slice_set, take}
use Rattle.bsession.specs.Sessions.{SessionView}
use Rattle.bhost.specs.declared.desk.Answer.{Answer}
use Rattle.bhost.specs.declared.desk.Answer.TheVariants as answer

-- a run, and the copies that are kept of it, in the order in which they were made
pub record RunsView : Type 0 where
  pub run : SessionView
  pub kept : List SessionView

-- The run as it stands is kept after the other copies, or nothing is, since memory is refused. It is itself unchanged.
abbrev pub IsCopied : (old new : RunsView) → Answer → Type 0
IsCopied old new answer.Done = new ≡ record old { kept = old.kept ++ old.run ∷ [] }
IsCopied old new answer.Refused = new ≡ old
IsCopied old new other = ⊥

-- whether there is a copy of a number
abbrev pub copy_told : Option SessionView → Answer
copy_told (Some copy) = answer.Done
copy_told None = answer.Missing

-- the copy of a number is the run, and the run is kept in its place
abbrev pub swapped : RunsView → (number : ℕ) → Option SessionView → RunsView
swapped runs number (Some copy) = record { run = copy; kept = slice_set runs.kept number runs.run }
swapped runs number None = runs

-- the copy of a number is gone, and those after it have a number less
abbrev pub without : RunsView → (number : ℕ) → Option SessionView → RunsView
without runs number (Some copy) = record runs { kept = take number runs.kept ++ drop (number + 1) runs.kept }
without runs number None = runs
