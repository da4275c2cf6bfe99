-- Promise: what reading some lines takes from where they come from.
use Rattle.std.specs.Prelude.{◌≡◌, ◌≢◌, ℕ, suc, Bool, true, false, ◌+◌, ◌<◌, ◌≤◌, List, [], ◌∷◌, ◌++◌, length, All}
use Rattle.std.specs.Prelude.{Option, Some, None, Result, Ok, Err, ◌⊎◌}
use Rattle.std.specs.List.{flat_map}
use Rattle.bword.specs.ByteEnds.{Incoming, Took, CanFollow}
use Rattle.bword.specs.declared.ends.Device.{Device}
use Rattle.bcode.specs.Headers.{header_of}
use Rattle.bcode.specs.Streams.{AreLines, FailsAfter, IsLinePart, EndsInLine}
use Rattle.bcode.specs.Stopping.{LineKind, IsOfKind, LineState, expects, IsStuckAfter, kinds_after}
use Rattle.blang.specs.Text.{joined, lines_of, body_lines, header_line, definition_text, end_text, edition_line}
use Rattle.blang.specs.Text.{IsWithinRanges}
use Rattle.blang.specs.declared.code.Definition.{Definition}
use Rattle.bcode.specs.declared.fault.CodeFault.TheVariants as fault
use Rattle.bcode.specs.declared.header.Header.{Header}
use Rattle.bcode.specs.declared.code_stop.CodeStop.{CodeStop}
use Rattle.bcode.specs.declared.code_stop.CodeStop.TheVariants as stop

-- the end that the lines come from, which end it is, and the number of the next line
pub record Ahead : Type 0 where
  pub end : Incoming
  pub lender : List ℕ
  pub line : ℕ

-- These bytes were taken, and no read failed.
pub record TakesBytes (old : Ahead) (taken : List ℕ) (new : Ahead) : Type 0 where
  pub took : Took old.end taken new.end
  pub failures : new.end.failures ≡ old.end.failures
  pub lender : new.lender ≡ old.lender

-- A text of so many lines was taken.
pub record TakesText (old : Ahead) (text : List ℕ) (count : ℕ) (new : Ahead) : Type 0 where
  pub reads : TakesBytes old text new
  pub lines : AreLines count text
  pub counted : new.line ≡ old.line + count

-- A read failed after these bytes, and no read came after it.
pub record BytesFail (old new : Ahead) : Type 0 where
  pub taken : List ℕ
  pub fails : FailsAfter old.end taken new.end
  pub lender : new.lender ≡ old.lender

module _ {X : Type 0} (spell : X → List ℕ) (within : X → Type 0) where
  -- The line of x was read.
  pub record ReadsLine (old : Ahead) (x : X) (new : Ahead) : Type 0 where
    pub inside : within x
    pub passes : TakesText old (spell x) 1 new

  -- No such line comes first, whatever follows the bytes that were taken, all of one line.
  pub record RefusesLine (old : Ahead) (n : ℕ) (new : Ahead) : Type 0 where
    pub here : n ≡ old.line
    pub taken : List ℕ
    pub part : IsLinePart taken
    pub reads : TakesBytes old taken new
    pub none : (more : List ℕ) → CanFollow new.end more
        → (x : X) (rest : List ℕ) → within x → taken ++ more ≡ spell x ++ rest → ⊥

  -- A read failed, and among the bytes before it no such line is whole.
  pub record BreaksLine (old new : Ahead) : Type 0 where
    pub breaks : BytesFail old new
    pub none : (x : X) (rest : List ℕ) → within x → breaks.taken ≡ spell x ++ rest → ⊥

  abbrev pub LineGives : Ahead → Result X CodeStop → Ahead → Type 0
  LineGives old (Ok x) new = ReadsLine old x new
  LineGives old (Err (stop.Fault (fault.Line n))) new = RefusesLine old n new
  LineGives old (Err (stop.Fault fault.Memory)) new = ⊥
  LineGives old (Err stop.Device) new = BreaksLine old new

  -- The lines of xs were read.
  pub record ReadsLines (count : ℕ) (old : Ahead) (xs : List X) (new : Ahead) : Type 0 where
    pub all : length xs ≡ count
    pub inside : All within xs
    pub passes : TakesText old (flat_map spell xs) count new

  -- Fewer such lines come first.
  pub record RefusesLines (count : ℕ) (old : Ahead) (n : ℕ) (new : Ahead) : Type 0 where
    pub read : List X
    pub fewer : length read < count
    pub inside : All within read
    pub mid : Ahead
    pub passes : TakesText old (flat_map spell read) (length read) mid
    pub refused : RefusesLine mid n new

  -- A read failed after fewer such lines.
  pub record BreaksLines (count : ℕ) (old new : Ahead) : Type 0 where
    pub read : List X
    pub fewer : length read < count
    pub inside : All within read
    pub mid : Ahead
    pub passes : TakesText old (flat_map spell read) (length read) mid
    pub broke : BreaksLine mid new

  -- So many such lines at most were read.
  pub record ReadsAtMost (count : ℕ) (old new : Ahead) : Type 0 where
    pub read : List X
    pub few : length read ≤ count
    pub inside : All within read
    pub reads : TakesBytes old (flat_map spell read) new

  abbrev pub LinesGive : {V : Type 0} → (V → List X) → ℕ → Ahead → Result V CodeStop → Ahead → Type 0
  LinesGive items count old (Ok v) new = ReadsLines count old (items v) new
  LinesGive items count old (Err (stop.Fault (fault.Line n))) new = RefusesLines count old n new
  LinesGive items count old (Err (stop.Fault fault.Memory)) new = ReadsAtMost count old new
  LinesGive items count old (Err stop.Device) new = BreaksLines count old new

-- The text stops at line n, whatever follows the bytes that were taken, none of which is of a later line.
pub record StopsAhead (from : LineState) (old : Ahead) (n : ℕ) (new : Ahead) : Type 0 where
  pub good : ℕ
  pub there : n ≡ old.line + good
  pub taken : List ℕ
  pub near : EndsInLine (suc good) taken
  pub reads : TakesBytes old taken new
  pub stops : (more : List ℕ) → CanFollow new.end more → IsStuckAfter good from (taken ++ more)

-- The text stops in one of the lines of these kinds.
pub record StopsAmong (kinds : List LineKind) (old : Ahead) (n : ℕ) (new : Ahead) : Type 0 where
  pub stopped : StopsAhead (expects kinds) old n new
  pub among : stopped.good < length kinds

-- The lines after the header of d were read.
pub record ReadsBody (h : Header) (old : Ahead) (d : Definition) (new : Ahead) : Type 0 where
  pub header : header_of d ≡ h
  pub inside : IsWithinRanges d
  pub passes : TakesText old (joined (body_lines d)) (length (body_lines d)) new

-- A read failed in one of the lines of these kinds.
pub record BreaksAmong (kinds : List LineKind) (old new : Ahead) : Type 0 where
  pub breaks : BytesFail old new
  pub good : ℕ
  pub stops : IsStuckAfter good (expects kinds) breaks.taken
  pub among : good < length kinds

-- lines of the first of these kinds
abbrev pub AreFirst : List (List ℕ) → List LineKind → Type 0
AreFirst [] kinds = Unit {0}
AreFirst (l ∷ ls) [] = ⊥
AreFirst (l ∷ ls) (k ∷ ks) = IsOfKind k l × AreFirst ls ks

-- Lines of the first of these kinds were read.
pub record ReadsFirst (kinds : List LineKind) (old new : Ahead) : Type 0 where
  pub lines : List (List ℕ)
  pub first : AreFirst lines kinds
  pub reads : TakesBytes old (joined lines) new

-- why lines of these kinds were not read
abbrev pub EndsAmong : List LineKind → Ahead → CodeStop → Ahead → Type 0
EndsAmong kinds old (stop.Fault (fault.Line n)) new = StopsAmong kinds old n new
EndsAmong kinds old (stop.Fault fault.Memory) new = ReadsFirst kinds old new
EndsAmong kinds old stop.Device new = BreaksAmong kinds old new

abbrev pub BodyGives : Header → Ahead → Result Definition CodeStop → Ahead → Type 0
BodyGives h old (Ok d) new = ReadsBody h old d new
BodyGives h old (Err why) new = EndsAmong (kinds_after h) old why new

-- The lines of d were read.
pub record ReadsDefinition (old : Ahead) (d : Definition) (new : Ahead) : Type 0 where
  pub inside : IsWithinRanges d
  pub passes : TakesText old (definition_text d) (length (lines_of d)) new

-- The text stops before a definition is whole.
pub record StopsInside (old : Ahead) (n : ℕ) (new : Ahead) : Type 0 where
  pub stopped : StopsAhead (expects []) old n new
  pub none : (more : List ℕ) → CanFollow new.end more
      → (d : Definition) (rest : List ℕ) → IsWithinRanges d → stopped.taken ++ more ≡ definition_text d ++ rest → ⊥

-- A definition comes, of which the first line was read, and nothing after the last one.
pub record HasNext (old new : Ahead) : Type 0 where
  pub taken : List ℕ
  pub reads : TakesBytes old taken new
  pub next : Definition
  pub inside : IsWithinRanges next
  pub rest : List ℕ
  pub spelled : taken ≡ header_line next ++ rest
  pub more : List ℕ
  pub whole : definition_text next ≡ taken ++ more

-- A read failed before a definition is whole.
pub record BreaksInside (old new : Ahead) : Type 0 where
  pub breaks : BytesFail old new
  pub none : (d : Definition) (rest : List ℕ) → IsWithinRanges d → breaks.taken ≡ definition_text d ++ rest → ⊥

-- a definition was read, or the last line
abbrev pub DefinitionGives : Ahead → Result (Option Definition) CodeStop → Ahead → Type 0
DefinitionGives old (Ok (Some d)) new = ReadsDefinition old d new
DefinitionGives old (Ok None) new = TakesText old end_text 1 new
DefinitionGives old (Err (stop.Fault (fault.Line n))) new = StopsInside old n new
DefinitionGives old (Err (stop.Fault fault.Memory)) new = HasNext old new
DefinitionGives old (Err stop.Device) new = BreaksInside old new

-- No byte was left; or one was taken.
pub record SeesEnd (old : Ahead) (is_over : Bool) (new : Ahead) : Type 0 where
  pub taken : List ℕ
  pub part : IsLinePart taken
  pub reads : TakesBytes old taken new
  pub same : new.line ≡ old.line
  pub nothing : is_over ≡ true → (taken ≡ []) × (new.end.is_over ≡ true)
  pub some : is_over ≡ false → taken ≢ []

abbrev pub EndGives : Ahead → Result Bool Device → Ahead → Type 0
EndGives old (Ok is_over) new = SeesEnd old is_over new
EndGives old (Err e) new = BytesFail old new

-- what a text begins with was read, if that was still to be done
abbrev pub OpeningRead : Bool → Ahead → Ahead → Type 0
OpeningRead true old new = TakesText old edition_line 1 new
OpeningRead false old new = new ≡ old

abbrev pub OpeningGives : Bool → Ahead → Result (Unit {0}) CodeStop → Ahead → Type 0
OpeningGives opens old (Ok u) new = OpeningRead opens old new
OpeningGives opens old (Err (stop.Fault (fault.Line n))) new =
    (opens ≡ true) × RefusesLine {X = Unit {0}} (λ _. edition_line) (λ _. Unit {0}) old n new
OpeningGives opens old (Err (stop.Fault fault.Memory)) new = ⊥
OpeningGives opens old (Err stop.Device) new = (opens ≡ true)
    × BreaksLine {X = Unit {0}} (λ _. edition_line) (λ _. Unit {0}) old new

-- The last line was read, and the end of the input was seen.
pub record ReadsLast (old new : Ahead) : Type 0 where
  pub reads : TakesBytes old end_text new
  pub over : new.end.is_over ≡ true

-- the line that may have to come before a definition
abbrev pub opening_line : Bool → List ℕ
opening_line true = edition_line
opening_line false = []

-- A read failed before a definition is whole after what may have to come before it.
pub record BreaksNext (opens : Bool) (old new : Ahead) : Type 0 where
  pub breaks : BytesFail old new
  pub none : (d : Definition) (rest : List ℕ) → IsWithinRanges d
      → breaks.taken ≡ opening_line opens ++ (definition_text d ++ rest) → ⊥

-- what reading the next definition does, where a line may have to come before it
abbrev pub NextDefinitionGives : Bool → Ahead → Result (Option Definition) CodeStop → Ahead → Type 0
NextDefinitionGives opens old (Ok (Some d)) new = (mid : Ahead) × OpeningRead opens old mid × ReadsDefinition mid d new
NextDefinitionGives opens old (Ok None) new = (mid : Ahead) × OpeningRead opens old mid × ReadsLast mid new
NextDefinitionGives opens old (Err (stop.Fault (fault.Line n))) new =
    ((opens ≡ true) × RefusesLine {X = Unit {0}} (λ _. edition_line) (λ _. Unit {0}) old n new)
    ⊎ ((mid : Ahead) × OpeningRead opens old mid × StopsInside mid n new)
NextDefinitionGives opens old (Err (stop.Fault fault.Memory)) new = (mid : Ahead) × OpeningRead opens old mid
    × HasNext mid new
NextDefinitionGives opens old (Err stop.Device) new = BreaksNext opens old new

-- nothing came after the last line; or something did, in a line of this number
abbrev pub EndingGives : Ahead → Result (Unit {0}) CodeStop → Ahead → Type 0
EndingGives old (Ok u) new = TakesBytes old [] new × (new.end.is_over ≡ true)
EndingGives old (Err (stop.Fault (fault.Line n))) new = (n ≡ old.line)
    × ((taken : List ℕ) × (taken ≢ []) × IsLinePart taken × TakesBytes old taken new)
EndingGives old (Err (stop.Fault fault.Memory)) new = ⊥
EndingGives old (Err stop.Device) new = BytesFail old new
