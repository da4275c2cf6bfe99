-- Closed facts: what a check of a layout answers, and that it writes nothing.
use Rattle.std.specs.Prelude.{◌≡◌, ◌+◌, ◌*◌, ℕ, codes, false, true, refl}
use Rattle.std.proofs.Common.{inl, inr}
use Rattle.bword.specs.ByteEnds.{Outgoing}
use Rattle.blang.specs.Reports.{Reported}
use Rattle.bformat.specs.Formats.{Shows}
use Rattle.bformat.specs.declared.formatting.TheConstants.{CHANGES, MOST_BYTES}

changes_told : CHANGES ≡ 2
changes_told = refl

-- a byte, two newlines before it, and 40 levels of four blanks
most_bytes : MOST_BYTES ≡ 1 + 2 + 40 * 4
most_bytes = refl

-- a text that is the source, and one that isn't
check_of_same : (o p : Outgoing) (status : ℕ) → Shows true (codes "a;") (codes "a;") o p status
    → (p ≡ o) × (status ≡ 0)
check_of_same o p status (still, inl same) = (still, same.1)
check_of_same o p status (still, inr other) = absurd (other.0 refl)

check_of_other : (o p : Outgoing) (status : ℕ) → Shows true (codes "a;") (codes "a ;") o p status
    → (p ≡ o) × (status ≡ 2)
check_of_other o p status (still, inl same) = absurd (differ same.0)
  where
    differ : codes "a;" ≡ codes "a ;" → ⊥
    differ e = cc
check_of_other o p status (still, inr other) = (still, other.1)

-- without a check the text is written
layout_written : (o p : Outgoing) (status : ℕ) → Shows false (codes "a;") (codes "a ;") o p status
    → Reported (codes "a;") 0 o p status
layout_written o p status told = told
