-- Promise: what reading or copying some lines takes from where they come from, and puts after a list.
use Rattle.std.specs.Prelude.{◌≡◌, ℕ, ◌<◌, ◌≤◌, Bool, true, false, List, [], ◌++◌, if◌then◌else◌, length, All, Option}
use Rattle.std.specs.Prelude.{Some, None}
use Rattle.std.specs.Prelude.{Result, Ok, Err}
use Rattle.std.specs.List.{flat_map}
use Rattle.blang.specs.Text.{joined, definition_text}
use Rattle.blang.specs.declared.code.Definition.{Definition}
use Rattle.bcode.specs.Ahead.{Ahead, TakesText, RefusesLine, BreaksLine, ReadsLines, ReadsAtMost, LinesGive}
use Rattle.bcode.specs.Ahead.{AreFirst, EndsAmong}
use Rattle.bcode.specs.Stopping.{LineKind}
use Rattle.bcode.specs.declared.fault.CodeFault.TheVariants as fault
use Rattle.bcode.specs.declared.code_stop.CodeStop.{CodeStop}
use Rattle.bcode.specs.declared.code_stop.CodeStop.TheVariants as stop

module _ {X : Type 0} (spell : X → List ℕ) (within : X → Type 0) where
  -- A text begins with so many such lines.
  pub record BeginsWith (count : ℕ) (text rest : List ℕ) : Type 0 where
    pub values : List X
    pub all : length values ≡ count
    pub inside : All within values
    pub split : text ≡ flat_map spell values ++ rest

  -- It does, and where their values are kept, they were put after others.
  abbrev pub PutsFound : (keeps : Bool) → (count : ℕ) → (text rest : List ℕ) → (before after : List X) → Type 0
  PutsFound keeps count text rest before after =
      (found : BeginsWith count text rest) × (after ≡ before ++ (if keeps then found.values else []))

  -- A text begins with one such line at least, and at most so many are of interest.
  pub record HasSome (most : ℕ) (text : List ℕ) : Type 0 where
    pub count : ℕ
    pub some : 0 < count
    pub few : count ≤ most
    pub rest : List ℕ
    pub found : BeginsWith count text rest

  module _ {Y : Type 0} (put : List X → List Y) where
    -- So many lines were read, and what is put for their values was put after what was there.
    pub record PutsLines (count : ℕ) (old : Ahead) (before : List Y) (new : Ahead) (after : List Y) : Type 0 where
      pub values : List X
      pub reads : ReadsLines spell within count old values new
      pub stands : after ≡ before ++ put values

    -- takes some lines, at least one and at most so many; or not even one comes
    abbrev pub SomeLinesGive : ℕ → Ahead → List Y → Result ℕ CodeStop → Ahead → List Y → Type 0
    SomeLinesGive most old before (Ok n) new after = (0 < n) × (n ≤ most) × PutsLines n old before new after
    SomeLinesGive most old before (Err (stop.Fault (fault.Line n))) new after = RefusesLine spell within old n new
    SomeLinesGive most old before (Err (stop.Fault fault.Memory)) new after = ReadsAtMost spell within most old new
    SomeLinesGive most old before (Err stop.Device) new after = BreaksLine spell within old new

    -- takes so many lines
    abbrev pub AllLinesGive : ℕ → Ahead → List Y → Result (Unit {0}) CodeStop → Ahead → List Y → Type 0
    AllLinesGive count old before (Ok u) new after = PutsLines count old before new after
    AllLinesGive count old before (Err why) new after =
        LinesGive spell within {V = List X} (λ xs. xs) count old (Err why) new

-- Lines of these kinds were read and copied.
pub record CopiesKinds (kinds : List LineKind) (old : Ahead) (before : List ℕ) (new : Ahead) (after : List ℕ)
    : Type 0 where
  pub lines : List (List ℕ)
  pub first : AreFirst lines kinds
  pub all : length lines ≡ length kinds
  pub passes : TakesText old (joined lines) (length lines) new
  pub copied : after ≡ before ++ joined lines

abbrev pub KindsGive : List LineKind → Ahead → List ℕ → Result (Unit {0}) CodeStop → Ahead → List ℕ → Type 0
KindsGive kinds old before (Ok u) new after = CopiesKinds kinds old before new after
KindsGive kinds old before (Err why) new after = EndsAmong kinds old why new

-- what reading a definition gives, where its text is put after another one in its place
abbrev pub TextGives : (Result (Option Definition) CodeStop → Type 0) → Result Bool CodeStop → (before after : List ℕ)
    → Type 0
TextGives gives (Ok true) before after = (d : Definition) × gives (Ok (Some d)) × (after ≡ before ++ definition_text d)
TextGives gives (Ok false) before after = gives (Ok None) × (after ≡ before)
TextGives gives (Err why) before after = gives (Err why)

-- whether nothing comes after such an answer
abbrev pub is_last_text : Result Bool CodeStop → Bool
is_last_text (Ok true) = false
is_last_text _ = true
