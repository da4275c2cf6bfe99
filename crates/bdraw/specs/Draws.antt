-- Promise: what comes of a program whose memory is drawn.
use Rattle.std.specs.Prelude.{◌≡◌, ℕ, ◌-◌, List, [], ◌∷◌, ◌++◌, codes, Option, Some, None}
use Rattle.std.specs.Option.{option_map_or}
use Rattle.bword.specs.ByteEnds.{Incoming, Outgoing, Kept, outgoing_of}
use Rattle.blang.specs.declared.code.Definition.{Definition}
use Rattle.blang.specs.declared.run.Outcome.{Outcome}
use Rattle.blang.specs.declared.run.Outcome.TheVariants as outcome
use Rattle.blang.specs.declared.run.Trap.{Trap}
use Rattle.blang.specs.declared.status.TheConstants.{DEVICE, DONE, MEMORY}
use Rattle.blang.specs.Compiles.{line_of}
use Rattle.blang.specs.Machine.{Image, image_of, machine}
use Rattle.blang.specs.Reports.{RunGives, RunEnds, Reported}
use Rattle.bmach.specs.Readings.{ReadBySteps}
use Rattle.bmach.specs.Stepping.{BeginsNot}
use Rattle.bmach.specs.declared.machine.Active.{Active}
use Rattle.btools.specs.Origins.{IsSuited, NamesOf, NoProgramOf, Origin, ProgramOf}
use Rattle.btools.specs.Programs.{nothing_written}
use Rattle.btools.specs.declared.names.Frame.{Frame}
use Rattle.bwatch.specs.Sights.{Sight, Sights}
use Rattle.bwatch.specs.Watches.{Watches}
use Rattle.bdraw.specs.Pictures.{DrawnProgram, count_text, drawn_of, picture_of}
use Rattle.bdraw.specs.declared.scene.Moment.{Moment}
use Rattle.bdraw.specs.declared.scene.Moment.TheVariants as moment

-- the title of a picture, which says when it was drawn
abbrev pub title_of : Moment → List ℕ
title_of moment.Before = codes "memory before the run"
title_of (moment.After made) =
    codes "memory after " ++ count_text made (codes "step") ++ codes "; filled words have changed"
title_of (moment.End made) =
    codes "memory where the run is over, after " ++ count_text made (codes "step")
    ++ codes "; filled words have changed"

-- the picture of a program at a moment, with memory of these words and these calls, the running one first
abbrev pub picture_at : DrawnProgram → Moment → (words : List ℕ) → (calls : List Active) → List ℕ
picture_at p at words calls = picture_of (title_of at) p words calls

-- A picture of memory before the run was written, or a beginning of it; or memory was refused, and nothing was.
pub data ShowsMemory (p : DrawnProgram) (at : Moment) (old new : Outgoing) (status : ℕ) : Type 0 where
  shown : Reported (picture_at p at p.image.words []) DONE old new status → ShowsMemory p at old new status
  no_memory : new ≡ old → status ≡ MEMORY → ShowsMemory p at old new status

-- the moment after so many steps, with which the run is over, or goes on where all were made
abbrev pub moment_of : Outcome → (made : ℕ) → Moment
moment_of outcome.Limit made = moment.After made
moment_of result made = moment.End made

-- the calls that are seen before a step, the running one first
abbrev pub running_in : Sight → List Active
running_in s = option_map_or (λ call. call ∷ []) s.call []

abbrev pub calls_in : Sight → List Active
calls_in s = running_in s ++ s.below

-- A text is the picture after so many steps, the last ones of a run: of the calls before the next step, or before the
-- trap. Of a run that the program has ended, the calls below the running one aren't told. Where a read failed, there is
-- no picture.
abbrev pub IsDrawn : DrawnProgram → (text : List ℕ) → Sights → (made : ℕ) → Outcome → Type 0
IsDrawn p text sights made outcome.Limit =
    text ≡ picture_at p (moment.After made) (sights made).store (calls_in (sights made))
IsDrawn p text sights made (outcome.Trap kind) =
    text ≡ picture_at p (moment.End made) (sights made).store (calls_in (sights (made - 1)))
IsDrawn p text sights made (outcome.Exit status) =
    (below : List Active)
    × (text ≡ picture_at p (moment.End made) (sights made).store (running_in (sights (made - 1)) ++ below))
IsDrawn p text sights made outcome.Device = ⊥
IsDrawn p text sights made outcome.Memory = ⊥

-- What is drawn after so many steps: memory as it is then, or where the run is over before; or as it is before a run
-- that doesn't begin. Where the program can't read its input nothing is written, nor where memory is refused; then only
-- its steps have read.
pub data DrawsRun (p : DrawnProgram) (n : ℕ) (i j : Incoming) (old new : Outgoing) (status : ℕ) : Type 0 where
  after : (result : Outcome) (made : ℕ) (text : List ℕ)
      → Watches (image_of p.definitions).functions (machine p.definitions) n i j result made (IsDrawn p text)
      → Reported text DONE old new status → DrawsRun p n i j old new status
  not_begun : (kind : Trap) → BeginsNot p.image (outcome.Trap kind)
      → ShowsMemory p (moment.End 0) old new status → j ≡ i → DrawsRun p n i j old new status
  unread : (output : Kept)
      → RunGives (machine p.definitions) n i j nothing_written (outgoing_of output) outcome.Device
      → new ≡ old → status ≡ DEVICE → DrawsRun p n i j old new status
  no_memory : ReadBySteps (machine p.definitions) n i j → new ≡ old → status ≡ MEMORY
      → DrawsRun p n i j old new status

abbrev pub DrawsProgram : DrawnProgram → Option ℕ → (i j : Incoming) (old new : Outgoing) → ℕ → Type 0
DrawsProgram p None i j old new status = ShowsMemory p moment.Before old new status × (j ≡ i)
DrawsProgram p (Some n) i j old new status = DrawsRun p n i j old new status

-- The memory of the program of this origin was drawn; or there is none, and nothing but why was written.
pub data Draws (origin : Origin) (source : List ℕ) (steps : Option ℕ) (ends : RunEnds) (status : ℕ) : Type 0 where
  drew : (ds : List Definition) (frames : List Frame) (image : Image) → ProgramOf origin source ds image
      → IsSuited origin source → NamesOf origin source frames → ends.line_after ≡ ends.line
      → DrawsProgram (drawn_of ds frames image) steps ends.input ends.input_after ends.out ends.out_after status
      → Draws origin source steps ends status
  stopped : NoProgramOf origin source line_of ends.line ends.line_after status → ends.out_after ≡ ends.out
      → ends.input_after ≡ ends.input → Draws origin source steps ends status
