-- Closed facts: when a count of failures or refusals has grown, and what can be seen of a stream over memory.
use Rattle.std.specs.Prelude.{◌≡◌, ℕ, ◌+◌, ◌^◌, ◌<◌, ◌≤◌, [], ◌∷◌, true, false, Some}
use Rattle.std.proofs.Common.{refl, arith}
use Rattle.bword.specs.ByteEnds.{most, Grew, incoming_of, outgoing_of}

by_one : Grew 0 1
by_one = refl

-- at its greatest number it stays
at_the_greatest : Grew most most
at_the_greatest = refl

-- below that, a count that stays has not grown
the_same : (count : ℕ) → count < most → Grew count count → ⊥
the_same count below grew = omega arith

-- nor has one that fell
less : (old new : ℕ) → old ≤ most → new < old → Grew old new → ⊥
less old new few below grew = omega arith

of_64_bits : most + 1 ≡ 2 ^ 64
of_64_bits = refl

incoming : incoming_of (record { left = 8 ∷ 9 ∷ []; is_over = false })
    ≡ record { left = Some (8 ∷ 9 ∷ []); is_over = false; failures = 0; bound = 2 }
incoming = refl

incoming_over : incoming_of (record { left = []; is_over = true })
    ≡ record { left = Some []; is_over = true; failures = 0; bound = 0 }
incoming_over = refl

outgoing : outgoing_of (record { bytes = 8 ∷ 9 ∷ []; refusals = 3 })
    ≡ record { written = Some (8 ∷ 9 ∷ []); failures = 0; refusals = 3 }
outgoing = refl
