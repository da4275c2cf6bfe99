-- Promise: an end over another end and bytes that follow it.
use Rattle.std.specs.Prelude.{◌≡◌, ℕ, ◌+◌, ◌-◌, ◌<◌, ◌≤◌, min, Bool, true, false, if◌then◌else◌, ◌⊎◌, option_map}
use Rattle.std.specs.Prelude.{List, [], ◌∷◌, ◌++◌, length, take}
use Rattle.std.specs.Io.KnownBytes.{IsAtEnd}
use Rattle.std.proofs.Common.{arith}
use Rattle.bword.specs.ByteEnds.{Fails, Incoming, most}

-- What can be seen of the other end, its bytes that come without failing, and which end it is; the bytes that follow it
-- and were not given yet; whether its end was answered, and the end of all; how many bytes were given, and how many
-- calls were refused since no more bytes can be counted; how many bytes could come at most when it was made, and how
-- many of these follow the other end.
pub record Joined : Type 0 where
  pub first : Incoming
  pub ready : List ℕ
  pub lender : List ℕ
  pub rest : List ℕ
  pub is_past_first : Bool
  pub is_over : Bool
  pub given : ℕ
  pub refused : ℕ
  pub limit : ℕ
  pub following : ℕ

-- Its bytes to come are those of the other end and then the rest. A failed call of the other end is one of its own.
abbrev pub joined_in : Joined → Incoming
joined_in j = record {
  left = option_map (λ bytes. bytes ++ j.rest) j.first.left;
  is_over = j.is_over;
  failures = min (j.first.failures + j.refused) most;
  bound = most - j.given;
}

pub bounded_joined : (j : Joined) → (joined_in j).bound ≤ most
bounded_joined j = omega arith

abbrev pub ready_joined : Joined → List ℕ
ready_joined j = take (most - j.given) (if j.is_past_first then j.rest else j.ready)

-- which end it is: how many bytes could come of it, how many follow the other end, and which that is
abbrev pub lender_joined : Joined → List ℕ
lender_joined j = j.limit ∷ j.following ∷ j.lender

-- What is always so. The rest comes once the end of the other one was answered, and before that all of it is left. No
-- byte was given that couldn't come, and no call was refused before no more bytes can be counted.
pub record IsJoined (j : Joined) : Type 0 where
  pub past : j.is_past_first ≡ true → IsAtEnd j.first.left × (j.first.is_over ≡ true)
  pub over : j.is_over ≡ true → (j.is_past_first ≡ true) × (j.rest ≡ [])
  pub untouched : j.is_past_first ≡ false → length j.rest ≡ j.following
  pub part : length j.rest ≤ j.following
  pub within : j.given + length j.rest + j.first.bound ≤ j.limit
  pub counted : 0 < j.refused → j.given ≡ most

-- A call fails only where one of the other end did, or where no more bytes can be counted.
abbrev pub FailsIn : Joined → Joined → Type 0
FailsIn old new = (Fails old.first new.first × (new.refused ≡ old.refused)) ⊎ (old.given ≡ most)

-- the end of these parts, which was made of an end with this bound, and of so many bytes
abbrev pub joined_of : (first : Incoming) (ready lender rest : List ℕ) (is_past_first is_over : Bool)
    (given refused bound following : ℕ) → Joined
joined_of first ready lender rest is_past_first is_over given refused bound following = record {
  first = first;
  ready = ready;
  lender = lender;
  rest = rest;
  is_past_first = is_past_first;
  is_over = is_over;
  given = given;
  refused = refused;
  limit = bound + following;
  following = following;
}

-- An end that has given nothing.
abbrev pub joined_new : (first : Incoming) → (ready lender rest : List ℕ) → Joined
joined_new first ready lender rest = joined_of first ready lender rest false false 0 0 first.bound (length rest)
