-- Promise: what a call of the reader of a code text does, counted from when the reader was made.
use Rattle.std.specs.Prelude.{◌≡◌, ℕ, ◌+◌, ◌<◌, Bool, true, false, List, [], ◌∷◌, ◌++◌, length, All, Option, Some, None}
use Rattle.std.specs.Prelude.{Result, Ok, Err, if◌then◌else◌}
use Rattle.std.specs.List.{flat_map}
use Rattle.bword.specs.ByteEnds.{Incoming, CanFollow}
use Rattle.bword.specs.declared.ends.EndFault.{EndFault}
use Rattle.bword.specs.declared.ends.EndFault.TheVariants as end_fault
use Rattle.bword.specs.declared.edition.Edition.{Edition}
use Rattle.bword.specs.declared.edition.Edition.TheVariants as editions
use Rattle.bcode.specs.Ahead.{Ahead, TakesBytes, TakesText, BytesFail}
use Rattle.bcode.specs.Faults.{IsFaultLineIn}
use Rattle.bcode.specs.Streams.{EndsInLine}
use Rattle.blang.specs.Text.{opening, opening_lines, header_line, lines_of, definition_text, IsTextOf, IsWithinRanges}
use Rattle.bcode.specs.declared.code_step.CodeStep.{CodeStep}
use Rattle.bcode.specs.declared.code_step.CodeStep.TheVariants as step
use Rattle.blang.specs.declared.code.Definition.{Definition}
use Rattle.bcode.specs.declared.fault.CodeFault.TheVariants as fault
use Rattle.bcode.specs.declared.code_stop.CodeStop.{CodeStop}
use Rattle.bcode.specs.declared.code_stop.CodeStop.TheVariants as stop

-- the edition of a reader, and what its end told when it was made, and which end it is
pub record ReaderStart : Type 0 where
  pub edition : Edition
  pub source : Incoming
  pub lender : List ℕ

-- how a reader began, what is still to be read, whether what its text begins with was read, and whether it has stopped
pub record CodeReader : Type 0 where
  pub first : ReaderStart
  pub ahead : Ahead
  pub is_begun : Bool
  pub is_closed : Bool

abbrev pub reader_start : Edition → Incoming → List ℕ → ReaderStart
reader_start edition source lender = record { edition = edition; source = source; lender = lender }

-- all of the text
abbrev pub all_ahead : ReaderStart → Ahead
all_ahead start = record { end = start.source; lender = start.lender; line = 1 }

abbrev pub reader_of : ReaderStart → Ahead → Bool → Bool → CodeReader
reader_of start ahead is_begun is_closed =
    record { first = start; ahead = ahead; is_begun = is_begun; is_closed = is_closed }

-- a reader that has read nothing
abbrev pub new : ReaderStart → CodeReader
new start = reader_of start (all_ahead start) false false

-- what the text begins with, where it was read, and its lines
abbrev pub opening_read : CodeReader → List ℕ
opening_read r = if r.is_begun then opening r.first.edition else []

abbrev pub opened_lines : CodeReader → List (List ℕ)
opened_lines r = if r.is_begun then opening_lines r.first.edition else []

-- Since a reader was made, it has taken what its text begins with and the texts of these definitions, and no byte more;
-- before its first call nothing.
pub record HasTaken (r : CodeReader) (ds : List Definition) : Type 0 where
  pub within : All IsWithinRanges ds
  pub unbegun : r.is_begun ≡ false → ds ≡ []
  pub passes : TakesText (all_ahead r.first) (opening_read r ++ flat_map definition_text ds)
      (length (opened_lines r) + length (flat_map lines_of ds)) r.ahead
  pub is_open : r.is_closed ≡ false

-- whether what the text begins with is a line that is still to be read
abbrev pub to_open : Bool → Edition → Bool
to_open false editions.Two = true
to_open _ _ = false

-- more definitions can come
pub record MoreCanBeRead (r : CodeReader) : Type 0 where
  pub before : List Definition
  pub since : HasTaken r before

-- d was read: the one after those that were read before.
pub record Gave (before : List Definition) (old : CodeReader) (d : Definition) (new : CodeReader) : Type 0 where
  pub now : HasTaken new (before ++ d ∷ [])
  pub falls : new.ahead.end.bound < old.ahead.end.bound

-- The definitions that were read before are those of all of the text, whose end was seen.
pub record TextEnded (before : List Definition) (old new : CodeReader) : Type 0 where
  pub taken : List ℕ
  pub reads : TakesBytes (all_ahead old.first) taken new.ahead
  pub whole : IsTextOf old.first.edition taken before
  pub over : new.ahead.end.is_over ≡ true
  pub closed : new.is_closed ≡ true

-- No definition comes whole after those that were read before.
abbrev pub NoneWhole : Edition → List ℕ → List Definition → Type 0
NoneWhole edition text before =
    (d : Definition) (rest : List ℕ) → IsWithinRanges d
    → text ≡ opening edition ++ flat_map definition_text before ++ (definition_text d ++ rest) → ⊥

-- Whatever follows the bytes taken, line n is the first that no text of the edition goes on with. No byte after it was
-- taken.
pub record StoppedAtLine (before : List Definition) (old : CodeReader) (n : ℕ) (new : CodeReader) : Type 0 where
  pub taken : List ℕ
  pub near : EndsInLine n taken
  pub reads : TakesBytes (all_ahead old.first) taken new.ahead
  pub following : List ℕ
  pub split : taken ≡ opening_read old ++ flat_map definition_text before ++ following
  pub fault : (more : List ℕ) → CanFollow new.ahead.end more → IsFaultLineIn old.first.edition (taken ++ more) n
  pub no_text : (more : List ℕ) → CanFollow new.ahead.end more → (ds : List Definition)
      → IsTextOf old.first.edition (taken ++ more) ds → ⊥
  pub none : (more : List ℕ) → CanFollow new.ahead.end more → NoneWhole old.first.edition (taken ++ more) before
  pub closed : new.is_closed ≡ true

-- Memory was refused after the first line of a definition, after whose last line no byte was taken.
pub record MemoryRefused (before : List Definition) (old new : CodeReader) : Type 0 where
  pub taken : List ℕ
  pub reads : TakesBytes (all_ahead old.first) taken new.ahead
  pub next : Definition
  pub inside : IsWithinRanges next
  pub rest : List ℕ
  pub spelled : taken ≡ opening old.first.edition ++ flat_map definition_text before ++ (header_line next ++ rest)
  pub more : List ℕ
  pub whole : definition_text next ≡ header_line next ++ rest ++ more
  pub closed : new.is_closed ≡ true

-- A read failed before a further definition was whole, and no read came after it.
pub record ReadBroke (before : List Definition) (old new : CodeReader) : Type 0 where
  pub breaks : BytesFail old.ahead new.ahead
  pub none : NoneWhole old.first.edition (opening_read old ++ flat_map definition_text before ++ breaks.taken) before
  pub closed : new.is_closed ≡ true

-- how a stream that refuses what is written stops the writing
abbrev pub stop_of : EndFault → CodeStop
stop_of end_fault.Device = stop.Device
stop_of end_fault.Memory = stop.Fault fault.Memory

-- the answer of a call, and whether it is the last one
abbrev pub code_step : Result (Option Definition) CodeStop → CodeStep
code_step (Ok (Some d)) = step.Definition d
code_step (Ok None) = step.End
code_step (Err (stop.Fault f)) = step.Fault f
code_step (Err stop.Device) = step.Device

abbrev pub is_last_step : CodeStep → Bool
is_last_step (step.Definition d) = false
is_last_step _ = true

-- what a call does after these definitions
abbrev pub GivesAfter : List Definition → CodeReader → CodeStep → CodeReader → Type 0
GivesAfter before old (step.Definition d) new = Gave before old d new
GivesAfter before old step.End new = TextEnded before old new
GivesAfter before old (step.Fault (fault.Line n)) new = StoppedAtLine before old n new
GivesAfter before old (step.Fault fault.Memory) new = MemoryRefused before old new
GivesAfter before old step.Device new = ReadBroke before old new
GivesAfter before old step.Closed new = ⊥

-- what a call does, whichever definitions were read before
abbrev pub StepGives : CodeReader → CodeStep → CodeReader → Type 0
StepGives old step.Closed new = (old.is_closed ≡ true) × (new ≡ old)
StepGives old answer new =
    MoreCanBeRead old × ((before : List Definition) → HasTaken old before → GivesAfter before old answer new)

-- the reader is over the same end
pub record SameReader (old new : CodeReader) : Type 0 where
  pub first : new.first ≡ old.first
  pub lender : new.ahead.lender ≡ old.ahead.lender
