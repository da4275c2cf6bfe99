-- Promise: what is told of the code of a program before it runs.
use Rattle.std.specs.Prelude.{◌≡◌, ℕ, ◌≤◌, ◌||◌, Bool, false, if◌then◌else◌, List, [], ◌∷◌, ◌++◌, codes, decimal}
use Rattle.std.specs.Prelude.{None, Some, drop, take, length, slice_index}
use Rattle.std.specs.List.{flat_map}
use Rattle.blang.specs.CodeParts.{Function}
use Rattle.blang.specs.Compiles.{line_of}
use Rattle.blang.specs.Layout.{shape_of}
use Rattle.blang.specs.Lines.{size_of}
use Rattle.blang.specs.Machine.{Image}
use Rattle.blang.specs.Reports.{Reported}
use Rattle.blang.specs.declared.code.Definition.{Definition}
use Rattle.blang.specs.declared.code.Definition.TheVariants as definition
use Rattle.blang.specs.declared.status.TheConstants.{DONE, FAULT}
use Rattle.btools.specs.Columns.{left, right}
use Rattle.btools.specs.Origins.{Code, LinesOf, NoProgramOf, Origin, ProgramOf}
use Rattle.btools.specs.Programs.{ToldEnds}
use Rattle.bverify.specs.Depths.{AreClosed, AreReached, Depths, Fits, depth_at}
use Rattle.bverify.specs.Flaws.{flaws_of, some_can_be_stuck}
use Rattle.bverify.specs.Stands.{HasDepths, IsNeverStuck}
use Rattle.bverify.specs.declared.flaws.Flaw.{Flaw}
use Rattle.bverify.specs.declared.flaws.Flaw.TheVariants as flaw
use Rattle.bverify.specs.declared.flaws.PlacedFlaw.{PlacedFlaw}
use Rattle.bverify.specs.declared.verifying.Telling.{Telling}

-- These are the flaws of a function, by depths that its calls can have: the first place has one, and so has each place
-- to which a way leads from one that has. Some can be stuck only if no depths fit.
pub record AreFlawsOf (f : Function) (flaws : List PlacedFlaw) : Type 0 where
  pub depths : Depths
  pub begun : 1 ≤ length f.code → depth_at depths 0 ≡ Some 0
  pub closed : AreClosed f.targets f.code depths
  pub reached : AreReached f.targets f.code depths
  pub told : flaws ≡ flaws_of f.targets f.code depths
  pub fits : some_can_be_stuck flaws ≡ false → Fits f.targets f.code depths
  pub never_idly : (other : Depths) → Fits f.targets f.code other → some_can_be_stuck flaws ≡ false

abbrev pub IsChecked : Definition → List PlacedFlaw → Type 0
IsChecked (definition.Function f) flaws = AreFlawsOf f flaws
IsChecked d flaws = flaws ≡ []

abbrev pub AreChecked : List Definition → List (List PlacedFlaw) → Type 0
AreChecked [] [] = Unit {0}
AreChecked (d ∷ ds) (flaws ∷ later) = IsChecked d flaws × AreChecked ds later
AreChecked ds flaws = ⊥

abbrev pub flaw_text : Flaw → List ℕ
flaw_text (flaw.Lacks depth taken) =
    codes "takes " ++ decimal taken ++ codes " of " ++ decimal depth ++ codes " operands"
flaw_text (flaw.Differs to depth other) =
    codes "comes to place " ++ decimal to ++ codes " with " ++ decimal depth ++ codes " operands, another way with "
    ++ decimal other
flaw_text (flaw.Leaves to) = codes "comes to place " ++ decimal to ++ codes ", which has no instruction"
flaw_text flaw.Unreached = codes "no way comes here"
flaw_text (flaw.Left operands) = codes "returns, and drops operands besides: " ++ decimal operands
flaw_text (flaw.NoGoto label) = codes "label " ++ decimal label ++ codes " is here, and no goto comes to it"

-- the line of a flaw, in a function with the lines of its places
abbrev pub flaw_line : (name lines : List ℕ) → PlacedFlaw → List ℕ
flaw_line name lines f =
    codes "in " ++ left 8 name ++ codes " place " ++ right 4 (decimal f.place) ++ codes "  line "
    ++ right 4 (decimal (slice_index lines f.place)) ++ codes "  " ++ flaw_text f.flaw ++ codes "\n"

-- what was told so far, and that of a definition
abbrev pub with_flaws : Telling → Definition → (lines : List ℕ) → List PlacedFlaw → Telling
with_flaws t d lines flaws = record {
  text = t.text ++ flat_map (flaw_line (shape_of d).name lines) flaws;
  can_be_stuck = t.can_be_stuck || some_can_be_stuck flaws;
}

abbrev pub told_from : Telling → List Definition → (lines : List ℕ) → List (List PlacedFlaw) → Telling
told_from t (d ∷ ds) lines (flaws ∷ later) =
    told_from (with_flaws t d (take (size_of d) lines) flaws) ds (drop (size_of d) lines) later
told_from t ds lines flaws = t

abbrev pub nothing_told : Telling
nothing_told = record { text = []; can_be_stuck = false }

-- This is what is told of definitions with the lines of their places.
abbrev pub TellsOf : List Definition → (lines : List ℕ) → Telling → Type 0
TellsOf ds lines t =
    (flaws : List (List PlacedFlaw)) × AreChecked ds flaws × (t ≡ told_from nothing_told ds lines flaws)

abbrev pub verified_status : (can_be_stuck : Bool) → ℕ
verified_status can_be_stuck = if can_be_stuck then FAULT else DONE

-- What is written for a source or a code text: the flaws of its functions, and the status is 1 if some run may be
-- stuck; else none is. Or nothing but why there is no program.
pub data Verifies (origin : Origin) (source : List ℕ) (ends : ToldEnds) (status : ℕ) : Type 0 where
  verified : (ds : List Definition) (image : Image) (lines : List ℕ) (t : Telling) → ProgramOf origin source ds image
      → LinesOf origin source lines → TellsOf ds lines t → (t.can_be_stuck ≡ false → IsNeverStuck ds)
      → ends.line_after ≡ ends.line
      → Reported t.text (verified_status t.can_be_stuck) ends.out ends.out_after status
      → Verifies origin source ends status
  stopped : NoProgramOf origin source line_of ends.line ends.line_after status → ends.out_after ≡ ends.out
      → Verifies origin source ends status

-- what is written for a code text
abbrev pub VerifiesText : (code : List ℕ) → ToldEnds → (status : ℕ) → Type 0
VerifiesText code ends status =
    Verifies (Code (record { code = code; lines = None; source = None; names = None })) code ends status
