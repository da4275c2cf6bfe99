-- Promise: what is told of a program, of what the rules say.
use Rattle.std.specs.Prelude.{◌≡◌, ℕ, ◌≤◌, ◌⊎◌, Bool, true, false, List, length, map, Option, None, Some, slice_get}
use Rattle.std.specs.List.{All, Any}
use Rattle.bword.specs.declared.edition.Edition.{Edition}
use Rattle.blang.specs.Trees.{Definition}
use Rattle.blang.specs.WellFormed.{AllFormed}
use Rattle.bsources.specs.Files.{Files, beyond_first}
use Rattle.bmatch.specs.Growing.{program_rows}
use Rattle.bmatch.specs.declared.noticing.Notice.{Notice}
use Rattle.blint.specs.declared.cautions.Caution.{Caution}
use Rattle.blint.specs.declared.telling.TheConstants.{MOST_CAUTIONS}
use Rattle.bmatch.specs.declared.tree.TokenPlace.{TokenPlace}
use Rattle.blint.specs.declared.warnings.Slip.TheVariants as slip
use Rattle.blint.specs.declared.warnings.Warning.{Warning}
use Rattle.blint.specs.declared.warnings.Warning.TheVariants as warning
use Rattle.blint.specs.Noticed.{IsNoticed, first_notice, warning_of}
use Rattle.blint.specs.SourceTokens.{IsSource, lexemes_in, token_places, tokens_of}

-- what rules alone give: finders give these others, too
abbrev pub is_of_rules : Warning → Bool
is_of_rules warning.CommentGoesOn = false
is_of_rules warning.DanglingElse = false
is_of_rules warning.FormValues = false
is_of_rules warning.HidesExternal = false
is_of_rules warning.NearMain = false
is_of_rules warning.NoMain = false
is_of_rules warning.OctalNumber = false
is_of_rules warning.Unset = false
is_of_rules warning.UnsetVector = false
is_of_rules (warning.Slip slip.FormKind) = false
is_of_rules (warning.Slip slip.SetLater) = false
is_of_rules w = true

-- A token at this place, in the first file, has this warning, by what is said of it first.
pub record IsDue (files : Files) (places : List TokenPlace) (notices : List Notice) (at : TokenPlace) (w : Warning)
    : Type 0 where
  pub token : ℕ
  pub place : slice_get places token ≡ Some at
  pub own : beyond_first files at.line ≡ None
  pub is : warning_of (first_notice notices token) ≡ Some w

-- What is told, each at the first byte of its place: all that is due, but after so many none that isn't before the last
-- of them; and of what rules alone give no more.
pub record TellsDue {X W : Type 0} (first_byte : TokenPlace → X) (of_warning : Warning → W)
    (NotAfter : X → TokenPlace → Type 0) (IsOfRules : W → Type 0) (Due : TokenPlace → Warning → Type 0)
    (told : List (X × W)) : Type 0 where
  pub all : (at : TokenPlace) (w : Warning) → Due at w
      → Any (λ t. (t.0 ≡ first_byte at) × (t.1 ≡ of_warning w)) told
      ⊎ ((MOST_CAUTIONS ≤ length told) × All (λ t. NotAfter t.0 at) told)
  pub meant : All (λ t. IsOfRules t.1
      → (at : TokenPlace) × (w : Warning) × Due at w × (t.0 ≡ first_byte at) × (t.1 ≡ of_warning w)) told

abbrev pub entry : Caution → ℕ × Warning
entry c = (c.place.start, c.warning)

-- the same of cautions
abbrev pub TellsOf : (TokenPlace → Warning → Type 0) → List Caution → Type 0
TellsOf Due cautions =
    TellsDue (λ at. at.start) (λ w. w) (λ start at. start ≤ at.start) (λ w. is_of_rules w ≡ true) Due
    (map entry cautions)

-- the rules say this of a source that is these definitions
abbrev pub AreNoticesIn : Edition → List ℕ → List Definition → List Notice → Type 0
AreNoticesIn edition source ds notices =
    let tokens = tokens_of edition source in
    IsNoticed source (lexemes_in tokens) (token_places tokens) (program_rows ds) notices

-- what is due of a source where this is said
abbrev pub IsDueBy : Edition → Files → List ℕ → List Notice → TokenPlace → Warning → Type 0
IsDueBy edition files source notices = IsDue files (token_places (tokens_of edition source)) notices

-- a token of a source that is these definitions has this warning
abbrev pub IsDueIn : Edition → Files → List ℕ → List Definition → TokenPlace → Warning → Type 0
IsDueIn edition files source ds at w =
    (notices : List Notice) → AreNoticesIn edition source ds notices → IsDueBy edition files source notices at w

-- Of a source that is definitions, cautions tell what is due.
abbrev pub Warns : Edition → Files → List ℕ → List Caution → Type 0
Warns edition files source cautions =
    (ds : List Definition) → AllFormed ds → IsSource edition source ds
    → (notices : List Notice) × AreNoticesIn edition source ds notices
    × TellsOf (IsDueBy edition files source notices) cautions
