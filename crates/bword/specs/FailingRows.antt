-- Closed facts: which call of a failing end fails, and what it keeps.
use Rattle.std.specs.Prelude.{◌≡◌, ℕ, List, [], ◌∷◌, map, codes, true, Option, Some, None, Result, Ok, Err, refl}
use Rattle.std.proofs.Common.{arith}
use Rattle.bword.specs.declared.ends.Device.{Device}
use Rattle.bword.specs.declared.ends.EndFault.{EndFault}
use Rattle.bword.specs.declared.ends.EndFault.TheVariants as fault
use Rattle.bword.specs.ByteEnds.{most}
use Rattle.bword.specs.FailingEnds.{FailingOut, failing_in, one_call_less, next_answer, PutsWithin}

-- calls are counted from 0, and after the one that fails none does
calls : map one_call_less (Some most ∷ Some 1 ∷ Some 0 ∷ None ∷ []) ≡
    Some 18446744073709551614 ∷ Some 0 ∷ None ∷ None ∷ []
calls = refl

abbrev answer : Option ℕ × List ℕ → Result (Option ℕ) Device
answer p = next_answer p.0 p.1

-- with bytes left, and after the end
answers : map answer ((Some 0, codes "ab") ∷ (Some 1, codes "ab") ∷ (None, codes "ab") ∷ []) ≡
    Err record {} ∷ Ok (Some 97) ∷ Ok (Some 97) ∷ []
answers = refl

after_the_end : map answer ((Some 0, []) ∷ (Some 1, []) ∷ (None, []) ∷ []) ≡ Err record {} ∷ Ok None ∷ Ok None ∷ []
after_the_end = refl

abbrev failures : Option ℕ → ℕ
failures until = (failing_in (record { left = []; is_over = true; until = until })).failures

counted : map failures (Some 1 ∷ Some 0 ∷ None ∷ []) ≡ 0 ∷ 0 ∷ 1 ∷ []
counted = refl

abbrev holding : List ℕ → ℕ → FailingOut
holding bytes room = record { bytes = bytes; room = room; failures = 0; refusals = 0 }

-- as many bytes as there is room for, and one more
all_room : PutsWithin (holding (codes "x") 2) (codes "ab") (Ok tt) (holding (codes "xab") 0)
all_room = (omega arith, (refl, refl))

no_failure_within : (new : FailingOut) → PutsWithin (holding [] 2) (codes "ab") (Err fault.Device) new → ⊥
no_failure_within new h = let less = h.0 in omega arith

one_more : PutsWithin (holding (codes "x") 2) (codes "abc") (Err fault.Device) (holding (codes "xab") 0)
one_more = (omega arith, (refl, refl))

no_success_past : (new : FailingOut) → PutsWithin (holding [] 2) (codes "abc") (Ok tt) new → ⊥
no_success_past new h = let within = h.0 in omega arith

-- where there is no room left nothing is taken, and memory isn't asked for
nothing_more : PutsWithin (holding (codes "xab") 0) (codes "c") (Err fault.Device) (holding (codes "xab") 0)
nothing_more = (omega arith, (refl, refl))

no_refusal : (text : List ℕ) (new : FailingOut) → PutsWithin (holding [] 0) text (Err fault.Memory) new → ⊥
no_refusal text new h = let some = h.0 in omega arith

-- a call without bytes succeeds
no_bytes : (old new : FailingOut) (e : EndFault) → PutsWithin old [] (Err e) new → ⊥
no_bytes old new fault.Device h = let less = h.0 in omega arith
no_bytes old new fault.Memory h = let some = h.1 in omega arith
