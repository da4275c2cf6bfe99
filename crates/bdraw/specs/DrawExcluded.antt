-- Promise: what no picture of memory is, of each source and whatever its ends do.
use Rattle.std.specs.Prelude.{◌≡◌, ◌⊎◌, ℕ, ◌==◌, ◌&&◌, not, true, Bool, IsTrue, List, [], Option, Some, None}
use Rattle.std.specs.List.{list_all}
use Rattle.bword.specs.declared.edition.Edition.{Edition}
use Rattle.bword.specs.ByteEnds.{Grew, Incoming, Writes}
use Rattle.bmach.specs.Readings.{LeftBySteps}
use Rattle.bmach.specs.Resolved.{IsLoadedFrom}
use Rattle.bmach.specs.Stepping.{BeginsNot}
use Rattle.blang.specs.declared.run.LoadFault.{LoadFault}
use Rattle.blang.specs.declared.run.Outcome.{Outcome}
use Rattle.blang.specs.declared.run.Outcome.TheVariants as outcome
use Rattle.blang.specs.declared.run.Trap.{Trap}
use Rattle.blang.specs.declared.status.TheConstants.{DEVICE, DONE, FAULT, REFUSED}
use Rattle.blang.specs.declared.token.Diagnostic.{Diagnostic}
use Rattle.blang.specs.Compiles.{Compilation, CompilesTo, line_of}
use Rattle.blang.specs.Cut.{tokens_from}
use Rattle.blang.specs.Layout.{load_fault}
use Rattle.blang.specs.Machine.{Image, machine, state_world}
use Rattle.blang.specs.Reports.{RunEnds}
use Rattle.bmach.specs.declared.machine.Active.{Active}
use Rattle.btools.specs.FrameNames.{HasNames}
use Rattle.btools.specs.Origins.{Source}
use Rattle.btools.specs.ProgramsExcluded.{code_in}
use Rattle.btools.specs.Programs.{load_line}
use Rattle.btools.specs.declared.names.Frame.{Frame}
use Rattle.bwatch.specs.Watches.{EndsAfter}
use Rattle.bdraw.specs.Draws.{Draws, moment_of, picture_at}
use Rattle.bdraw.specs.Pictures.{drawn_of}
use Rattle.bdraw.specs.Shapes.{escaped}
use Rattle.bdraw.specs.declared.scene.Moment.{Moment}
use Rattle.bdraw.specs.declared.scene.Moment.TheVariants as moment

-- a byte that begins or ends no tag
abbrev pub is_no_tag : ℕ → Bool
is_no_tag b = not (b == 60) && not (b == 62)

-- What is excluded of the texts of a picture: a tag in one.
abbrev pub NoTags : Type 0
NoTags = (text : List ℕ) → IsTrue (list_all is_no_tag (escaped text))

-- the end tells its bytes, which are these
abbrev pub TellsBytes : Incoming → List ℕ → Type 0
TellsBytes end bytes = (end.left ≡ Some bytes) × (end.is_over ≡ true → bytes ≡ [])

module _ (edition : Edition) (source : List ℕ) (r : Compilation) (g : CompilesTo [] (tokens_from edition 1 source) r)
    (ends : RunEnds) where
  -- a picture of the program of the source was written, of these words
  abbrev pub Shows : Image → Moment → List ℕ → Type 0
  Shows image at words =
      (frames : List Frame) × (calls : List Active) × HasNames edition source frames
      × Writes ends.out (picture_at (drawn_of (code_in edition source r g) frames image) at words calls) ends.out_after

  -- the moment after so many steps on these bytes, or where the run is over before
  abbrev pub IsMomentOf : ℕ → (bytes : List ℕ) → Moment → Type 0
  IsMomentOf n bytes at =
      (result : Outcome) × (made : ℕ) × (left : List ℕ) × (at ≡ moment_of result made)
      × EndsAfter (machine (code_in edition source r g) bytes) made n result left

  -- a picture was drawn of a run of so many steps on these bytes: of the words that the machine has then, and just what
  -- it has read was taken; or of those before a run that doesn't begin
  abbrev pub IsOfStep : Image → ℕ → (bytes : List ℕ) → Moment → (words : List ℕ) → Type 0
  IsOfStep image n bytes at words =
      (IsMomentOf n bytes at × (words ≡ (state_world (machine (code_in edition source r g) bytes n)).store)
      × (ends.input_after.left ≡ Some (state_world (machine (code_in edition source r g) bytes n)).input))
      ⊎ ((kind : Trap) × BeginsNot image (outcome.Trap kind) × (at ≡ moment.End 0) × (words ≡ image.words)
      × (ends.input_after ≡ ends.input))

  -- What is excluded of a picture.
  pub record WrongPictures : Type 0 where
    -- 0 for a source with a fault, or for what doesn't load
    pub done : (steps : Option ℕ) → Draws (Source edition) source steps ends DONE
        → (r.stop ≡ None) × (load_fault (code_in edition source r g) ≡ None)
    -- a picture before the run that is one of other words, or for which something was read
    pub before : Draws (Source edition) source None ends DONE
        → (image : Image) × IsLoadedFrom (code_in edition source r g) image × Shows image moment.Before image.words
        × (ends.input_after ≡ ends.input)
    -- a picture of the machine a step earlier or later, or that says so, or for which it read less or more
    pub after : (n : ℕ) (bytes : List ℕ) → TellsBytes ends.input bytes
        → Draws (Source edition) source (Some n) ends DONE
        → (image : Image) × (at : Moment) × (words : List ℕ) × IsLoadedFrom (code_in edition source r g) image
        × Shows image at words × IsOfStep image n bytes at words
    -- a failed read that isn't told by 133, or something written after it
    pub unread : (steps : Option ℕ) (status : ℕ) → Draws (Source edition) source steps ends status
        → (ends.input_after.failures ≡ ends.input.failures → ⊥) → (status ≡ DEVICE) × (ends.out_after ≡ ends.out)
    -- 133 where no read and no write failed
    pub device : (steps : Option ℕ) → Draws (Source edition) source steps ends DEVICE
        → Grew ends.input.failures ends.input_after.failures ⊎ Grew ends.out.failures ends.out_after.failures
        ⊎ Grew ends.line.failures ends.line_after.failures
    -- 1 for a source without a fault, or with another line, or with anything else written or read
    pub fault : (steps : Option ℕ) → Draws (Source edition) source steps ends FAULT
        → ((d : Diagnostic) × (r.stop ≡ Some d) × Writes ends.line (line_of d) ends.line_after)
        × (ends.out_after ≡ ends.out) × (ends.input_after ≡ ends.input)
    -- 132 for definitions that load, or with another line, or with anything else written or read
    pub unloaded : (steps : Option ℕ) → Draws (Source edition) source steps ends REFUSED
        → ((f : LoadFault) × (text : List ℕ) × (load_fault (code_in edition source r g) ≡ Some f)
        × (load_line f ≡ Some text) × Writes ends.line text ends.line_after)
        × (ends.out_after ≡ ends.out) × (ends.input_after ≡ ends.input)
    -- whatever the status, as where memory was refused: a byte taken that no step asked for
    pub unasked : (n status : ℕ) → Draws (Source edition) source (Some n) ends status
        → LeftBySteps (machine (code_in edition source r g)) n ends.input ends.input_after

abbrev pub NoPictures : Type 0
NoPictures =
    (edition : Edition) (source : List ℕ) (r : Compilation) (g : CompilesTo [] (tokens_from edition 1 source) r)
    (ends : RunEnds) → WrongPictures edition source r g ends
