-- Inner words: a block of output, on its way to a writer.
use Rattle.std.specs.Prelude.{◌≡◌, ℕ, ◌+◌, ◌<◌, ◌≤◌, nat_le, Bool, true, false, List, [], ◌++◌, length, take}
use Rattle.std.specs.Prelude.{Option, Some, None, Result, Ok, Err}
use Rattle.std.specs.Io.KnownBytes.{Appends, append_known}
use Rattle.bword.specs.ByteEnds.{Outgoing}

-- What a block has shown, what it keeps, and for how many bytes it has room.
pub record Held : Type 0 where
  pub shown : Option (List ℕ)
  pub kept : List ℕ
  pub len : ℕ

-- all bytes that the block was given: those that it has shown, and then those that it keeps
abbrev pub held : Held → Option (List ℕ)
held it = append_known it.shown it.kept

-- These bytes were shown, and those are kept.
pub record HandsOn (old : Held) (bytes kept : List ℕ) (new : Held) : Type 0 where
  pub appended : Appends old.shown new.shown bytes
  pub kept_is : new.kept ≡ kept
  pub same_len : new.len ≡ old.len

-- A beginning of these bytes was shown, and none is kept.
pub record HandsSome (old : Held) (bytes : List ℕ) (new : Held) : Type 0 where
  pub count : ℕ
  pub within : count ≤ length bytes
  pub appended : Appends old.shown new.shown (take count bytes)
  pub kept_is : new.kept ≡ []
  pub same_len : new.len ≡ old.len

-- whether a block that keeps these bytes has room for a piece
abbrev pub has_room : Held → (kept piece : List ℕ) → Bool
has_room it kept piece = nat_le (length kept + length piece) it.len

-- what was kept was shown, and then the piece is kept if it fits, or else was shown too
abbrev pub PassesOn : (fits : Bool) → Held → (piece : List ℕ) → Held → Type 0
PassesOn true old piece new = HandsOn old old.kept piece new
PassesOn false old piece new = HandsOn old (old.kept ++ piece) [] new

-- where there is room for a piece it is kept after what was kept, and nothing is shown
abbrev pub TakesPiece : (has_room fits : Bool) → Held → (piece : List ℕ) → Held → Type 0
TakesPiece true fits old piece new = new ≡ record old { kept = old.kept ++ piece }
TakesPiece false fits old piece new = PassesOn fits old piece new

-- a writer took all of the bytes, or a beginning of them
abbrev pub WritesOn : {E : Type 0} → Option (List ℕ) → List ℕ → Result (Unit {0}) E → Option (List ℕ) → Type 0
WritesOn old bytes (Ok u) new = Appends old new bytes
WritesOn old bytes (Err e) new = (n : ℕ) × (n ≤ length bytes) × Appends old new (take n bytes)

-- a buffer was shown
abbrev pub WasShown : {B : Type 0} → (shows : B → B → Type 0) → Type 0
WasShown {B} shows = (old : B) × (new : B) × shows old new

-- a buffer took these bytes
abbrev pub WasTaken : {B : Type 0} → (takes : B → List ℕ → B → Type 0) → List ℕ → Type 0
WasTaken {B} takes bytes = (old : B) × (new : B) × takes old bytes new

-- a buffer was shown for the last time, and this is its writer as that has left it
abbrev pub WasFinished : {B W : Type 0} → (finishes : B → W → Type 0) → Option W → Type 0
WasFinished {B} {W} finishes output = (old : B) × (writer : W) × (output ≡ Some writer) × finishes old writer

-- what can be seen of an end, and how much room it has set aside in a buffer
pub record Seen : Type 0 where
  pub seen : Outgoing
  pub room : ℕ

-- the room in a buffer that may be held
abbrev pub spare_of : {G : Type 0} → (spare : G → ℕ) → Option G → ℕ
spare_of spare None = 0
spare_of spare (Some guard) = spare guard

-- a buffer is held only where there is room in it
abbrev pub HoldsRoom : {G : Type 0} → (spare : G → ℕ) → Option G → Type 0
HoldsRoom spare None = Unit {0}
HoldsRoom spare (Some guard) = 0 < spare guard
