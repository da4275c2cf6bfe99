-- Promise: what a stream over the room of a caller has written, and what a call leaves in its two rooms.
use Rattle.std.specs.Prelude.{◌≡◌, ◌≢◌, ℕ, ◌≤◌, List, [], ◌∷◌, ◌++◌, take, drop, length}
use Rattle.std.specs.Prelude.{true, Option, Some, None, is_some}
use Rattle.bword.specs.ByteEnds.{Outgoing}

-- how often a write failed, and the first byte that had no room
pub record Overflow : Type 0 where
  pub failures : ℕ
  pub byte : Option ℕ

abbrev pub overflow_of : (failures : ℕ) → Option ℕ → Overflow
overflow_of failures byte = record { failures = failures; byte = byte }

abbrev pub bytes_over : Option ℕ → List ℕ
bytes_over None = []
bytes_over (Some byte) = byte ∷ []

-- A stream that wrote at the head of a room. To one with more bytes than there is room for it is as if the room had one
-- more: so a write that failed has left out a byte.
abbrev pub room_of : (room : List ℕ) (count : ℕ) → Overflow → Outgoing
room_of room count over =
    record { written = Some (take count room ++ bytes_over over.byte); failures = over.failures; refusals = 0 }

-- a stream that has written nothing
abbrev pub fresh : Outgoing
fresh = record { written = Some []; failures = 0; refusals = 0 }

-- a write has failed only where the room is full and a byte has none
abbrev pub FailsFull : (room : List ℕ) (count : ℕ) → Overflow → Type 0
FailsFull room count over =
    (over.failures ≢ 0 → (count ≡ length room) × (is_some over.byte ≡ true)) × (over.failures ≡ 0 → over.byte ≡ None)

-- a room before and after a call, and how many bytes the call wrote at its head
pub record Room : Type 0 where
  pub before : List ℕ
  pub after : List ℕ
  pub count : ℕ

-- the same in order
abbrev pub left_in : (before after : List ℕ) (count : ℕ) → Room
left_in before after count = record { before = before; after = after; count = count }

-- A stream has written at the head of the room, and what the room held after that stays. It failed only where the room
-- is full and a byte has none.
pub record Filled (room : Room) (over : Overflow) : Type 0 where
  pub size : length room.after ≡ length room.before
  pub within : room.count ≤ length room.before
  pub kept : drop room.count room.after ≡ drop room.count room.before
  pub full : FailsFull room.before room.count over

-- the stream over a room that is filled so
abbrev pub stream_of : Room → Overflow → Outgoing
stream_of room over = room_of room.after room.count over

-- Nothing was written in a room.
pub record Untouched (room : Room) : Type 0 where
  pub same : room.after ≡ room.before
  pub none : room.count ≡ 0
