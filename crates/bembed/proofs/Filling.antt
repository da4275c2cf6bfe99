-- What was done over streams that were made over memory was done over their bytes.
use Rattle.std.proofs.Common.{◌≡◌, ◌∙◌, ℕ, List, ◌∷◌, drop, length, Option, Some, false, ap, arith, sym, subst}
use Rattle.bword.specs.declared.edition.Edition.{Edition}
use Rattle.bword.specs.ByteEnds.{Incoming, Outgoing, Unread, incoming_of}
use Rattle.bembed.specs.declared.room.Room as stream
use Rattle.bembed.specs.Rooms.{Filled, Overflow, Room, room_of, fresh, overflow_of}
use Rattle.bembed.specs.Calls.{InEdition, all_of, edition_of}

-- A room over which a stream was made is filled as the stream was left.
pub filled : (made left : stream.Room) (room : Room) → made.before.now.bytes ≡ room.before
    → (left.room.ghost_name ∷ left.count.ghost_name ∷ left.before.now.bytes)
    ≡ (made.room.ghost_name ∷ made.count.ghost_name ∷ made.before.now.bytes)
    → room.after ≡ left.room.now → room.count ≡ left.count.now → length room.after ≡ length room.before
    → Filled room (overflow_of left.failures left.over)
filled made left room is same after told size = record {
  size = size;
  within = omega (arith, left.within, ap length after, told, size);
  kept = rw told (rw after (left.kept ∙ ap (drop left.count.now) (ap (drop 2) same ∙ is)));
  full = (λ failed. (told ∙ (left.full.0 failed).0 ∙ ap length (sym after) ∙ size, (left.full.0 failed).1), left.full.1);
}

pub from_memory : (P : Incoming → Type 0) (stream : Unread) (bytes : List ℕ)
    → stream ≡ record { left = bytes; is_over = false } → P (incoming_of stream) → P (all_of bytes)
from_memory P stream bytes is = subst (λ s. P (incoming_of s)) is

-- what was done over a stream that was made over a room
pub into_room : (P : Outgoing → Outgoing → Type 0)
    (room room_now room_after : List ℕ) (count : ℕ) (over : Overflow) (written : ℕ) (over_now : Overflow) (told : ℕ)
    → room_of room count over ≡ fresh → room_after ≡ room_now → told ≡ written
    → P (room_of room count over) (room_of room_now written over_now) → P fresh (room_of room_after told over_now)
into_room P room room_now room_after count over written over_now told empty left is h =
    subst (λ n. P fresh (room_of room_after n over_now)) (sym is)
    (subst (λ r. P fresh (room_of r written over_now)) (sym left)
    (subst (λ o. P o (room_of room_now written over_now)) empty h))

-- and of both rooms
pub into_both : (P : Outgoing → Outgoing → Outgoing → Outgoing → Type 0)
    (out out_now out_after : List ℕ) (out_count : ℕ) (out_over : Overflow) (out_written : ℕ) (out_left : Overflow) (out_told : ℕ)
    (line line_now line_after : List ℕ) (line_count : ℕ) (line_over : Overflow) (line_written : ℕ) (line_left : Overflow) (line_told : ℕ)
    → room_of out out_count out_over ≡ fresh → room_of line line_count line_over ≡ fresh
    → out_after ≡ out_now → line_after ≡ line_now → out_told ≡ out_written → line_told ≡ line_written
    → P (room_of out out_count out_over) (room_of out_now out_written out_left)
    (room_of line line_count line_over) (room_of line_now line_written line_left)
    → P fresh (room_of out_after out_told out_left) fresh (room_of line_after line_told line_left)
into_both P out out_now out_after oc of ow od ot line line_now line_after lc lf lw ld lt empty_out empty_line left told out_is line_is h =
    into_room (λ o p. P o p fresh (room_of line_after lt ld)) out out_now out_after oc of ow od ot empty_out left out_is
    (into_room (P (room_of out oc of) (room_of out_now ow od)) line line_now line_after lc lf lw ld lt empty_line told line_is h)

-- and over an input in memory
pub into_rooms : (P : Incoming → Outgoing → Outgoing → Outgoing → Outgoing → Type 0)
    (stream : Unread) (bytes : List ℕ)
    (out out_now out_after : List ℕ) (out_count : ℕ) (out_over : Overflow) (out_written : ℕ) (out_left : Overflow) (out_told : ℕ)
    (line line_now line_after : List ℕ) (line_count : ℕ) (line_over : Overflow) (line_written : ℕ) (line_left : Overflow) (line_told : ℕ)
    → stream ≡ record { left = bytes; is_over = false }
    → room_of out out_count out_over ≡ fresh → room_of line line_count line_over ≡ fresh
    → out_after ≡ out_now → line_after ≡ line_now → out_told ≡ out_written → line_told ≡ line_written
    → P (incoming_of stream) (room_of out out_count out_over) (room_of out_now out_written out_left)
    (room_of line line_count line_over) (room_of line_now line_written line_left)
    → P (all_of bytes) fresh (room_of out_after out_told out_left) fresh (room_of line_after line_told line_left)
into_rooms P stream bytes out out_now out_after oc of ow od ot line line_now line_after lc lf lw ld lt is empty_out empty_line left told out_is line_is h =
    from_memory (λ i. P i fresh (room_of out_after ot od) fresh (room_of line_after lt ld)) stream bytes is
    (into_both (P (incoming_of stream)) out out_now out_after oc of ow od ot line line_now line_after lc lf lw ld lt empty_out empty_line left told out_is line_is h)

pub in_edition : (P : Edition → Type 0) (out line : Room) (status number : ℕ) (told : Option Edition) (edition : Edition)
    → told ≡ edition_of number → told ≡ Some edition → P edition → InEdition (edition_of number) out line status P
in_edition P out line status number told edition is some h =
    subst (λ e. InEdition e out line status P) is (subst (λ e. InEdition e out line status P) (sym some) h)
