-- Promise: what the contracts of `go_careful` and `find_first` exclude.
use Rattle.std.specs.Prelude.{◌≡◌, ◌⊎◌, ◌<◌, ℕ, List, [], ◌++◌, None, Option, Some, false, is_some, true}
use Rattle.bword.specs.ByteEnds.{Grew, Incoming, Outgoing, Writes}
use Rattle.blang.specs.declared.code.Definition.{Definition}
use Rattle.blang.specs.declared.run.Outcome.{Outcome}
use Rattle.blang.specs.declared.run.Outcome.TheVariants as outcome
use Rattle.bword.specs.declared.edition.Edition.{Edition}
use Rattle.blang.specs.Text.{IsCodeText}
use Rattle.blang.specs.declared.status.TheConstants.{REFUSED, TRAP}
use Rattle.blang.specs.Compiles.{Compilation, CompilesTo, Tells}
use Rattle.blang.specs.Cut.{tokens_from}
use Rattle.blang.specs.Machine.{Image, image_of, machine}
use Rattle.blang.specs.Reports.{Finishes, RunEnds}
use Rattle.bmach.specs.Readings.{LeftBySteps}
use Rattle.bmach.specs.Stepping.{BeginsNot, HasEnd}
use Rattle.bmach.specs.declared.machine.Stop.{Stop}
use Rattle.bendless.specs.Recordings.{Records, is_whole}
use Rattle.bendless.specs.declared.recorder.Record.{Record}
use Rattle.btools.specs.FaultPlaces.{fault_lines}
use Rattle.btools.specs.Origins.{Code, NamesOf, NoProgramOf, PlacesOf, ProgramOf, Source, SourcePlaces}
use Rattle.btools.specs.PlaceLines.{CodeText}
use Rattle.btools.specs.ProgramsExcluded.{code_in}
use Rattle.btools.specs.declared.names.Frame.{Frame}
use Rattle.btrace.specs.Locates.{Locates}
use Rattle.btrace.specs.RowTexts.{Legend, legend_in}
use Rattle.bwatch.specs.Sights.{Sights, sights_of}
use Rattle.bcareful.specs.Things.{Atlas, atlas_in}
use Rattle.bcareful.specs.Findings.{finding_at}
use Rattle.bcareful.specs.First.{FindsFirst, FindsNothing}
use Rattle.bcareful.specs.Runs.{CarefulAsked, Runs, finds_wraps, stays}
use Rattle.bcareful.specs.Tellings.{careful_text}
use Rattle.bcareful.specs.Warned.{Warnings, warnings_at}
use Rattle.bcareful.specs.declared.finding.Finding.{Finding}
use Rattle.bcareful.specs.declared.watching.Found.{Found}

module _ (asked : CarefulAsked) (source : List ℕ) (ends : RunEnds) where
  -- The program, with the words of its frames, and the lines and columns of its instructions.
  pub record OfOrigin : Type 0 where
    pub ds : List Definition
    pub image : Image
    pub frames : List Frame
    pub places : SourcePlaces
    pub program : ProgramOf asked.origin source ds image
    pub named : NamesOf asked.origin source frames
    pub lined : PlacesOf asked.origin source places

  abbrev pub own_atlas : OfOrigin → Atlas
  own_atlas p = atlas_in p.ds p.frames (finds_wraps asked.care)

  abbrev pub own_legend : OfOrigin → Legend
  own_legend p = legend_in p.ds p.places asked.files

  -- its run on these bytes, as it is seen, and what is found at the step after so many
  abbrev pub own_sights : OfOrigin → (bytes : List ℕ) → Sights
  own_sights p bytes = sights_of (image_of p.ds).functions (machine p.ds) bytes

  abbrev pub own_finding : OfOrigin → (bytes : List ℕ) → (made : ℕ) → Option Finding
  own_finding p bytes made = finding_at (own_atlas p) (own_sights p bytes) made

  -- There is no program, or its run did not begin; and why was told.
  abbrev pub DidNotRun : (status : ℕ) → Type 0
  DidNotRun status = NoProgramOf asked.origin source (fault_lines asked.files) ends.line ends.line_after status
      ⊎ ((ds : List Definition) × (image : Image) × (result : Outcome) × ProgramOf asked.origin source ds image
      × BeginsNot image result × Finishes result ends.line ends.line_after status)

  -- The first finding was told, by its name, and nothing else.
  pub record IsToldFound (bytes : List ℕ) (status : ℕ) : Type 0 where
    pub of : OfOrigin
    pub found : Found
    pub within : found.made < asked.steps
    pub before : (m : ℕ) → m < found.made → own_finding of bytes m ≡ None
    pub is : own_finding of bytes found.made ≡ Some found.finding
    pub written : Writes ends.line
        (careful_text (own_atlas of) (own_legend of) source (own_sights of bytes found.made) found) ends.line_after
    pub status_is : status ≡ TRAP

  -- It was told as `locate` tells it, and no step has a finding.
  pub record IsToldClean (bytes : List ℕ) (status : ℕ) : Type 0 where
    pub locates : Locates asked.origin source asked.files asked.steps ends status
    pub clean : DidNotRun status
        ⊎ ((of : OfOrigin) × ((m : ℕ) → m < asked.steps → own_finding of bytes m ≡ None))

  -- It was told so; and then each place with a finding, by what is found there first.
  pub record IsToldOn (bytes : List ℕ) (status : ℕ) : Type 0 where
    pub line : Outgoing
    pub locates : Locates asked.origin source asked.files asked.steps (record ends { line_after = line }) status
    pub text : List ℕ
    pub written : Writes line text ends.line_after
    pub told : (DidNotRun status × (text ≡ []))
        ⊎ ((of : OfOrigin) × (text ≡ Warnings.text
        (warnings_at (own_atlas of) (own_legend of) source (own_sights of bytes) asked.steps)))

  -- What is excluded of a careful run of a program.
  pub record WrongCarefulRuns : Type 0 where
    -- of a run that stays at a finding: one passed over, or told too early, another name, another text; or, without a
    -- finding, another status or line than those of `locate`, or none of its place
    pub staying : (bytes : List ℕ) → Tells ends.input bytes → stays asked.care ≡ true → (status : ℕ)
        → status < REFUSED → Runs asked source ends status → IsToldFound bytes status ⊎ IsToldClean bytes status
    -- of one that goes on: the same, or that it stays at the first, or texts lost
    pub going_on : (bytes : List ℕ) → Tells ends.input bytes → stays asked.care ≡ false → (status : ℕ)
        → status < REFUSED → Runs asked source ends status → IsToldOn bytes status
    -- whatever the status, as where memory was refused: a byte taken that no step asked for
    pub unasked : (edition : Edition) (r : Compilation) (g : CompilesTo [] (tokens_from edition 1 source) r)
        (status : ℕ) → Runs (record asked { origin = Source edition }) source ends status
        → LeftBySteps (machine (code_in edition source r g)) asked.steps ends.input ends.input_after
    pub unasked_by_code : (c : CodeText) (ds : List Definition) → IsCodeText c.code ds → (status : ℕ)
        → Runs (record asked { origin = Code c }) source ends status
        → LeftBySteps (machine ds) asked.steps ends.input ends.input_after

module _ (ds : List Definition) (image : Image) (steps : ℕ) (i j : Incoming) where
  abbrev seen : (bytes : List ℕ) → Sights
  seen bytes = sights_of (image_of ds).functions (machine ds) bytes

  -- What is excluded of a run that is made in silence.
  pub record WrongSilentRuns : Type 0 where
    -- no finding told though a step has one, unless a read failed or memory was refused
    pub passed : (a : Atlas) (stop : Stop) (bytes : List ℕ) → Tells i bytes
        → (stop.outcome ≡ outcome.Device → ⊥) → (stop.outcome ≡ outcome.Memory → ⊥)
        → FindsFirst a (image_of ds).functions (machine ds) steps i j stop None
        → (m : ℕ) → m < steps → finding_at a (seen bytes) m ≡ None
    -- another finding than the first, or one of a step that has none
    pub first : (a : Atlas) (stop : Stop) (text bytes : List ℕ) → Tells i bytes
        → FindsFirst a (image_of ds).functions (machine ds) steps i j stop (Some text)
        → ((m : ℕ) → m < stop.steps → finding_at a (seen bytes) m ≡ None)
        × (is_some (finding_at a (seen bytes) stop.steps) ≡ true)
    -- 133 where no read failed, as for a write
    pub device : (a : Atlas) (stop : Stop) → stop.outcome ≡ outcome.Device
        → FindsFirst a (image_of ds).functions (machine ds) steps i j stop None → Grew i.failures j.failures
    -- a byte of the input that was read and is not kept, where all are said to be, or another one in its place
    pub lost : (read : Record) (bytes left : List ℕ) → is_whole read.extent ≡ true → i.left ≡ Some bytes
        → j.left ≡ Some left → Records read i j → bytes ≡ read.bytes.items ++ left
    -- a byte taken where the run did not begin, or a run said not to have begun that is not over
    pub unbegun : (result : Outcome) → (result ≡ outcome.Memory → ⊥) → FindsNothing ds image steps i j result
        → HasEnd result × (j ≡ i)
    -- whatever came of it, as where memory was refused: a byte taken that no step asked for
    pub unasked : (result : Outcome) → FindsNothing ds image steps i j result → LeftBySteps (machine ds) steps i j

abbrev pub NoCarefulRuns : Type 0
NoCarefulRuns =
    ((asked : CarefulAsked) (source : List ℕ) (ends : RunEnds) → WrongCarefulRuns asked source ends)
    × ((ds : List Definition) (image : Image) (steps : ℕ) (i j : Incoming) → WrongSilentRuns ds image steps i j)
