-- Promise: ends over memory that fail at a stated place.
use Rattle.std.specs.Prelude.{◌≡◌, ℕ, ◌+◌, ◌-◌, ◌<◌, ◌≤◌, min, ◌==◌, Bool, if◌then◌else◌, List, [], ◌++◌, take, length}
use Rattle.std.specs.Prelude.{slice_get, Option, Some, None, is_some, Result, Ok, Err}
use Rattle.std.proofs.Common.{arith}
use Rattle.bword.specs.declared.ends.Device.{Device}
use Rattle.bword.specs.declared.ends.EndFault.{EndFault}
use Rattle.bword.specs.declared.ends.EndFault.TheVariants as fault
use Rattle.bword.specs.ByteEnds.{most, Incoming, Outgoing}

-- What is left of a list, whether its end was answered, and how many calls come before the one that fails, which is
-- None when that one has been.
pub record FailingIn : Type 0 where
  pub left : List ℕ
  pub is_over : Bool
  pub until : Option ℕ

-- one call has failed when none is to come that fails
abbrev pub failing_in : FailingIn → Incoming
failing_in m = record {
  left = Some m.left;
  is_over = m.is_over;
  failures = if is_some m.until then 0 else 1;
  bound = min (length m.left) most;
}

pub failing_in_bounded : (m : FailingIn) → (failing_in m).bound ≤ most
failing_in_bounded m = omega arith

-- how many calls come before the one that fails, after a further call
abbrev pub one_call_less : Option ℕ → Option ℕ
one_call_less None = None
one_call_less (Some calls) = if calls == 0 then None else Some (calls - 1)

-- what a call answers: the first byte of what is left, or the end; or a failure, where no call comes before that
abbrev pub next_answer : Option ℕ → List ℕ → Result (Option ℕ) Device
next_answer None left = Ok (slice_get left 0)
next_answer (Some calls) left = if calls == 0 then Err record {} else Ok (slice_get left 0)

-- The bytes in a list, room for so many more, how often it failed, and how often it was refused memory.
pub record FailingOut : Type 0 where
  pub bytes : List ℕ
  pub room : ℕ
  pub failures : ℕ
  pub refusals : ℕ

abbrev pub failing_out : FailingOut → Outgoing
failing_out m = record { written = Some m.bytes; failures = m.failures; refusals = m.refusals }

-- these bytes are there after those of before, and take their room
abbrev pub Fills : FailingOut → List ℕ → FailingOut → Type 0
Fills old text new = (new.bytes ≡ old.bytes ++ text) × (new.room + length text ≡ old.room)

-- A call takes the bytes for which there is room, and fails where these aren't all. Where the list was refused memory
-- it takes none.
abbrev pub PutsWithin : FailingOut → List ℕ → Result (Unit {0}) EndFault → FailingOut → Type 0
PutsWithin old text (Ok u) new = (length text ≤ old.room) × Fills old text new
PutsWithin old text (Err fault.Device) new = (old.room < length text) × Fills old (take old.room text) new
PutsWithin old text (Err fault.Memory) new = (0 < old.room) × (0 < length text) × Fills old [] new
