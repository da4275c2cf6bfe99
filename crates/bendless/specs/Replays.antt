-- Inner words: input that is read again.
use Rattle.std.specs.Prelude.{◌≡◌, ℕ, ◌≤◌, min, Bool, true, false, if◌then◌else◌, List, [], ◌∷◌, length, Some}
use Rattle.std.proofs.Common.{arith}
use Rattle.bword.specs.ByteEnds.{Incoming, most}

-- the bytes that are left, whether their end is known, whether it was answered, and how many calls have failed
pub record Replayed : Type 0 where
  pub left : List ℕ
  pub has_end : Bool
  pub is_over : Bool
  pub failures : ℕ

abbrev pub replayed : (left : List ℕ) (has_end is_over : Bool) (failures : ℕ) → Replayed
replayed left has_end is_over failures =
    record { left = left; has_end = has_end; is_over = is_over; failures = failures }

-- before the first call
abbrev pub replay_new : (bytes : List ℕ) (has_end : Bool) → Replayed
replay_new bytes has_end = replayed bytes has_end false 0

abbrev pub replay_in : Replayed → Incoming
replay_in r =
    record { left = Some r.left; is_over = r.is_over; failures = r.failures; bound = min (length r.left) most }

pub bounded_replay : (r : Replayed) → (replay_in r).bound ≤ most
bounded_replay r = omega arith

-- which end it is: whether its end is known
abbrev pub lender_replay : Replayed → List ℕ
lender_replay r = (if r.has_end then 1 else 0) ∷ []

-- Its end is answered only where it is known, and after all bytes.
abbrev pub IsReplay : Replayed → Type 0
IsReplay r = r.is_over ≡ true → (r.left ≡ []) × (r.has_end ≡ true)
