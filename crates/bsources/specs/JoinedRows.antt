-- Closed facts: what is seen of an end over another end and bytes that follow it.
use Rattle.std.specs.Prelude.{◌≡◌, ℕ, ◌-◌, ◌<◌, Bool, true, false, List, [], ◌∷◌, Some, None, codes, refl}
use Rattle.std.proofs.Common.{arith}
use Rattle.bword.specs.ByteEnds.{Incoming, Grew, incoming_of, most}
use Rattle.bsources.specs.JoinedEnds.{IsJoined, Joined, joined_in, joined_new, lender_joined, ready_joined}

-- an end over memory with these bytes
abbrev end_of : List ℕ → Bool → Incoming
end_of bytes is_over = incoming_of (record { left = bytes; is_over = is_over })

-- over an end with a and b comes c
abbrev at_first : Joined
at_first = joined_new (end_of (codes "ab") false) (codes "ab") [] (codes "c")

-- the same when the first end has told that it is over, and when all is over
abbrev at_rest : Joined
at_rest = record at_first { first = end_of [] true; ready = []; is_past_first = true; given = 2 }

abbrev at_end : Joined
at_end = record at_rest { rest = []; is_over = true; given = 3 }

-- the same when one more byte can be counted, and when no more
abbrev almost_most : Joined
almost_most = record at_first { given = most - 1 }

abbrev at_most : Joined
at_most = record at_first { given = most }

-- an end with these bytes, and these after it
abbrev over : (first rest : List ℕ) → Joined
over first rest = joined_new (end_of first false) first [] rest

ends_in_turn : ((joined_in at_first).left ≡ Some (codes "abc")) × ((joined_in at_rest).left ≡ Some (codes "c"))
ends_in_turn = (refl, refl)

-- nothing comes first, nothing follows, and neither has a byte
without_bytes : ((joined_in (over [] (codes "c"))).left ≡ Some (codes "c"))
    × ((joined_in (over (codes "ab") [])).left ≡ Some (codes "ab")) × ((joined_in (over [] [])).left ≡ Some [])
without_bytes = (refl, refl, refl)

first_over : (joined_in at_rest).is_over ≡ false
first_over = refl

past_the_end : ((joined_in at_end).left ≡ Some []) × ((joined_in at_end).is_over ≡ true)
past_the_end = (refl, refl)

ready_in_turn : (ready_joined at_first ≡ codes "ab") × (ready_joined at_rest ≡ codes "c") × (ready_joined at_end ≡ [])
ready_in_turn = (refl, refl, refl)

-- an end that doesn't tell its bytes
untold : (joined_in (record at_first { first = record (end_of [] false) { left = None } })).left ≡ None
untold = refl

-- so many calls of the first end have failed, and so many were refused
abbrev failing : (first refused : ℕ) → Joined
failing first refused =
    record at_first { first = record (end_of (codes "ab") false) { failures = first }; refused = refused }

abbrev failures_in : (first refused : ℕ) → ℕ
failures_in first refused = (joined_in (failing first refused)).failures

-- there is one count of both, and a failure is counted once; at the greatest number the count stays
failures_are_counted : (failures_in 0 0 ≡ 0) × (failures_in 1 0 ≡ 1) × (failures_in 0 1 ≡ 1) × (failures_in 3 2 ≡ 5)
failures_are_counted = (refl, refl, refl, refl)

failures_grow : Grew (failures_in 0 0) (failures_in 1 0) × Grew (failures_in 1 0) (failures_in 1 1)
failures_grow = (refl, refl)

failures_stay : (failures_in (most - 1) 0 ≡ most - 1) × (failures_in (most - 1) 1 ≡ most) × (failures_in most 1 ≡ most)
failures_stay = (refl, refl, refl)

-- no more bytes come than a u64 can count
bytes_are_counted : ((joined_in at_first).bound ≡ most) × ((joined_in almost_most).bound ≡ 1)
    × ((joined_in at_most).bound ≡ 0)
bytes_are_counted = (refl, refl, refl)

no_more_are_ready : (ready_joined almost_most ≡ codes "a") × (ready_joined at_most ≡ [])
no_more_are_ready = (refl, refl)

-- three bytes could come, of which one follows, as all calls tell
limit_of_three : (at_first.limit ≡ 3) × (lender_joined at_end ≡ 3 ∷ 1 ∷ [])
limit_of_three = (refl, refl)

-- The rest comes before the end of the first was answered, or the end of all before the rest was given. More bytes were
-- given than could come.
rest_early : IsJoined (record at_rest { first = end_of [] false }) → ⊥
rest_early so = cc (so.past refl).1

over_early : IsJoined (record at_rest { is_over = true }) → ⊥
over_early so = cc (so.over refl).1

-- the rest lost before the end of the first, and more of it than followed
rest_lost : IsJoined (record at_first { rest = [] }) → ⊥
rest_lost so = cc (so.untouched refl)

rest_longer : IsJoined (record at_rest { rest = codes "bc"; given = 1 }) → ⊥
rest_longer so = omega (arith, so.part)

given_twice : IsJoined (record at_rest { given = 3 }) → ⊥
given_twice so = omega (arith, so.within)

-- a call was refused, and few bytes could come
pub refused_early : (j : Joined) → IsJoined j → j.limit < most → 0 < j.refused → ⊥
refused_early j so few some = let within = so.within in let all = so.counted some in omega arith
