-- What was done over streams that were made over rooms was done in the rooms.
use Rattle.std.proofs.Common.{◌≡◌, ℕ, List, ◌∷◌, length, false}
use Rattle.bword.specs.ByteEnds.{Outgoing, Unread, incoming_of}
use Rattle.blang.specs.Reports.{RunEnds, run_ends}
use Rattle.blang.specs.declared.token.Diagnostic.{Diagnostic}
use Rattle.btools.specs.Origins.{Origin}
use Rattle.btools.specs.Programs.{ToldEnds, told_ends}
use Rattle.bhost.specs.Statuses.{LoadsTelling}
use Rattle.bhost.specs.declared.host.Host.{Host}
use Rattle.bembed.specs.declared.room.Room as stream
use Rattle.bembed.specs.Looks.{RunsOver, TellsOver}
use Rattle.bembed.specs.Sessions.{LoadsInto}
use Rattle.bembed.specs.Rooms.{Overflow, Room, fresh, overflow_of, room_of}
use Rattle.bembed.proofs.Filling.{filled, into_both, into_room, into_rooms}

abbrev pub over_of : stream.Room → Overflow
over_of it = overflow_of it.failures it.over

abbrev pub shown : stream.Room → Outgoing
shown it = room_of it.room.now it.count.now (over_of it)

-- a stream that was made over a room, and is left so
pub record IsLeft (made left : stream.Room) (room : Room) : Type 0 where
  pub before : made.before.now.bytes ≡ room.before
  pub empty : shown made ≡ fresh
  pub same : (left.room.ghost_name ∷ left.count.ghost_name ∷ left.before.now.bytes)
      ≡ (made.room.ghost_name ∷ made.count.ghost_name ∷ made.before.now.bytes)
  pub after : room.after ≡ left.room.now
  pub told : room.count ≡ left.count.now
  pub size : length room.after ≡ length room.before

pub runs_over : (P : RunEnds → Type 0) (input : List ℕ) (given read : Unread)
    (out_made out_left line_made line_left : stream.Room) (out line : Room)
    → given ≡ record { left = input; is_over = false } → IsLeft out_made out_left out → IsLeft line_made line_left line
    → P (run_ends (incoming_of given) (incoming_of read) (shown out_made) (shown out_left) (shown line_made) (shown line_left))
    → RunsOver input out line P
runs_over P input given read om ol lm ll out line is o l h = record {
  input_after = read;
  out_over = over_of ol;
  line_over = over_of ll;
  out_filled = filled om ol out o.before o.same o.after o.told o.size;
  line_filled = filled lm ll line l.before l.same l.after l.told l.size;
  runs = into_rooms (λ i a b c d. P (run_ends i (incoming_of read) a b c d)) given input
      om.room.now ol.room.now out.after om.count.now (over_of om) ol.count.now (over_of ol) out.count
      lm.room.now ll.room.now line.after lm.count.now (over_of lm) ll.count.now (over_of ll) line.count
      is o.empty l.empty o.after l.after o.told l.told h;
}

pub tells_over : (P : ToldEnds → Type 0) (out_made out_left line_made line_left : stream.Room) (out line : Room)
    → IsLeft out_made out_left out → IsLeft line_made line_left line
    → P (told_ends (shown out_made) (shown out_left) (shown line_made) (shown line_left)) → TellsOver out line P
tells_over P om ol lm ll out line o l h = record {
  out_over = over_of ol;
  line_over = over_of ll;
  out_filled = filled om ol out o.before o.same o.after o.told o.size;
  line_filled = filled lm ll line l.before l.same l.after l.told l.size;
  tells = into_both (λ a b c d. P (told_ends a b c d))
      om.room.now ol.room.now out.after om.count.now (over_of om) ol.count.now (over_of ol) out.count
      lm.room.now ll.room.now line.after lm.count.now (over_of lm) ll.count.now (over_of ll) line.count
      o.empty l.empty o.after l.after o.told l.told h;
}

pub loads_into : (origin : Origin) (source : List ℕ) (h : Host) (lines : Diagnostic → List ℕ) (made left : stream.Room) (line : Room) (status : ℕ)
    → IsLeft made left line
    → LoadsTelling origin source h (record { lines = lines; before = shown made; after = shown left; status = status })
    → LoadsInto origin source h lines line status
loads_into origin source h lines made left line status l loads = record {
  line_over = over_of left;
  line_filled = filled made left line l.before l.same l.after l.told l.size;
  loads = into_room (λ before after. LoadsTelling origin source h (record { lines = lines; before = before; after = after; status = status }))
      made.room.now left.room.now line.after made.count.now (over_of made) left.count.now (over_of left) line.count
      l.empty l.after l.told loads;
}
