-- Promise: the steps of all lines together.
use Rattle.std.specs.Prelude.{◌≡◌, ◌≤◌, ◌⊎◌, ℕ, ◌+◌, List}
use Rattle.std.specs.List.{sum_by}
use Rattle.bword.specs.ByteEnds.{Incoming, most}
use Rattle.blang.specs.declared.code.Definition.{Definition}
use Rattle.blang.specs.declared.run.Outcome.{Outcome}
use Rattle.blang.specs.declared.run.Outcome.TheVariants as outcome
use Rattle.blang.specs.declared.run.Trap.TheVariants as trap
use Rattle.blang.specs.Machine.{Image, image_of, machine}
use Rattle.btools.specs.Functions.{functions_of}
use Rattle.btools.specs.Origins.{Code, Origin, ProgramOf, Source}
use Rattle.bwatch.specs.Watches.{Watches}
use Rattle.btools.specs.ProgramLines.{FunctionLines}
use Rattle.bcount.specs.Counts.{AreCounts, Asked, counts_by_line}
use Rattle.bcount.specs.declared.lines.LineCount.{LineCount}

-- how many steps the code of all these lines took
abbrev pub all_steps : List LineCount → ℕ
all_steps counts = sum_by (λ c. c.steps) counts

-- All lines have together as many steps as were made; or one fewer, where a code text has no instruction for the last
-- step.
abbrev pub AddUp : Origin → Outcome → (all made : ℕ) → Type 0
AddUp (Source edition) result all made = all ≡ made
AddUp (Code c) result all made = (all ≡ made) ⊎ ((result ≡ outcome.Trap trap.Stuck) × (all + 1 ≡ made))

-- There is a program, and no more steps were asked for than a u64 counts. So many were made, and these are the counts of
-- its instructions.
pub record IsCounted (asked : Asked) (source : List ℕ) (tallies : List (List ℕ)) (made : ℕ) : Type 0 where
  pub ds : List Definition
  pub image : Image
  pub program : ProgramOf asked.origin source ds image
  pub fits : asked.steps ≤ most
  pub input : Incoming
  pub input_after : Incoming
  pub result : Outcome
  pub counts : Watches (image_of ds).functions (machine ds) asked.steps input input_after result made
      (AreCounts (functions_of ds) tallies)

-- The steps of all lines together are those that were made, whatever lines the instructions are on.
abbrev pub StepsAddUp : Type 0
StepsAddUp =
    (asked : Asked) (source : List ℕ) (tallies : List (List ℕ)) (made : ℕ) (is : IsCounted asked source tallies made)
    (fs : List FunctionLines) → AddUp asked.origin is.result (all_steps (counts_by_line source fs tallies)) made
