-- Promise: the code of a source, or of a code text, as it is listed.
use Rattle.std.specs.Prelude.{◌≡◌, ℕ, Bool, true, List, [], ◌∷◌, ◌++◌, codes, drop, filter, take, refl}
use Rattle.std.specs.Prelude.{Option, Some, None}
use Rattle.std.specs.List.{flat_map, slice_get}
use Rattle.std.specs.Str.{bytes_eq}
use Rattle.blang.specs.Compiles.{line_of}
use Rattle.blang.specs.Lines.{size_of}
use Rattle.blang.specs.declared.code.Definition.{Definition}
use Rattle.blang.specs.declared.code.Definition.TheVariants as definition
use Rattle.blang.specs.declared.status.TheConstants.{DONE, WRONG_COMMAND}
use Rattle.blang.specs.Layout.{shape_of}
use Rattle.blang.specs.Machine.{Image}
use Rattle.blang.specs.Reports.{Reported}
use Rattle.blist.specs.declared.listing.TheConstants.{HEADING, UNDEFINED}
use Rattle.blist.specs.ListingTexts.{definition_rows}
use Rattle.btools.specs.Origins.{IsSuited, LinesOf, NamesOf, NoProgramOf, Origin, ProgramOf, beside}
use Rattle.btools.specs.Programs.{ToldEnds, image_address}
use Rattle.btools.specs.SourceLines.{source_lines}
use Rattle.btools.specs.declared.names.Frame.{Frame}

-- the columns of a listing
listing_heading : HEADING.now ≡ codes " place  line  code          source                                  name\n"
listing_heading = refl

-- what is said of a name that the source doesn't define
undefined_line : UNDEFINED.now ≡ codes "error: the source has no definition of this NAME\n"
undefined_line = refl

-- whether a definition is wanted: of a name those alone that have it
abbrev pub is_wanted : Option (List ℕ) → Definition → Bool
is_wanted None d = true
is_wanted (Some name) d = bytes_eq (shape_of d).name name

abbrev pub wanted : Option (List ℕ) → List Definition → List Definition
wanted name ds = filter (is_wanted name) ds

-- a definition with the lines of its instructions or initial values, and the names of a function
pub record Told : Type 0 where
  pub definition : Definition
  pub lines : List ℕ
  pub frame : Option Frame

-- The names of a function are the first ones that are left.
abbrev pub frames_after : Definition → List Frame → List Frame
frames_after (definition.Function f) frames = drop 1 frames
frames_after d frames = frames

abbrev pub told_of : List Definition → (lines : List ℕ) → List Frame → List Told
told_of [] lines frames = []
told_of (d ∷ ds) lines frames =
    record { definition = d; lines = take (size_of d) lines; frame = slice_get frames 0 }
    ∷ told_of ds (drop (size_of d) lines) (frames_after d frames)

-- the rows of a definition, where it lies in an image
abbrev pub told_rows : Image → (source : List ℕ) → Told → List ℕ
told_rows image source t =
    definition_rows (source_lines source) (image_address image (shape_of t.definition).name) t.lines t.frame
    t.definition

-- the rows of what is wanted
abbrev pub list_text : Image → (source : List ℕ) → Option (List ℕ) → List Definition → (lines : List ℕ) → List Frame
    → List ℕ
list_text image source name ds lines frames =
    HEADING.now
    ++ flat_map (told_rows image source) (filter (λ t. is_wanted name t.definition) (told_of ds lines frames))

-- What is written for a source or a code text: the lines of the code of what is wanted, each in its row, where it lies
-- and beside the line of the source that it comes from; or nothing but why there are none, or that none has the name.
-- Which labels of a source stand beside them is not said.
pub data Lists (origin : Origin) (source : List ℕ) (name : Option (List ℕ)) (ends : ToldEnds) (status : ℕ) : Type 0
  where
    listed : (ds : List Definition) (image : Image) (lines : List ℕ) (frames : List Frame)
        → ProgramOf origin source ds image → LinesOf origin source lines → NamesOf origin source frames
        → ends.line_after ≡ ends.line → (wanted name ds ≡ [] → ⊥)
        → Reported (list_text image (beside origin source) name ds lines frames) DONE ends.out ends.out_after status
        → Lists origin source name ends status
    unnamed : (ds : List Definition) (image : Image) → ProgramOf origin source ds image → IsSuited origin source
        → wanted name ds ≡ [] → Reported UNDEFINED.now WRONG_COMMAND ends.line ends.line_after status
        → ends.out_after ≡ ends.out → Lists origin source name ends status
    stopped : NoProgramOf origin source line_of ends.line ends.line_after status → ends.out_after ≡ ends.out
        → Lists origin source name ends status
