-- Shifts by the width of a word and more.
use Rattle.std.proofs.Common.{◌≡◌, ℕ, ◌+◌, ◌-◌, ◌*◌, ◌/◌, ◌%◌, ◌^◌, ◌<◌, ◌≤◌, arith, ap, ◌∙◌, sym}
use Rattle.std.proofs.Math.Nat.{mul-mod_left, div-eq_of_lt, pow-le-pow_right, mul_assoc}
use Rattle.std.proofs.lemmas.Nat.{pow-add}

-- nothing of a word is left
pub shl_out : (a n : ℕ) → 16 ≤ n → a * 2 ^ n % 65536 ≡ 0
shl_out a n h =
    let split : (n - 16) + 16 ≡ n = omega arith in
    let power : 2 ^ n ≡ 2 ^ (n - 16) * 65536 = ap (λ k. 2 ^ k) (sym split) ∙ pow-add 2 (n - 16) 16 in
    rw (power, ← mul_assoc a (2 ^ (n - 16)) 65536) (mul-mod_left (a * 2 ^ (n - 16)) 65536)

pub shr_out : (a n : ℕ) → a < 65536 → 16 ≤ n → a / 2 ^ n ≡ 0
shr_out a n h k =
    let least : 65536 ≤ 2 ^ n = pow-le-pow_right {n = 2} (omega arith) {i = 16} {j = n} k in
    let small : a < 2 ^ n = omega arith in div-eq_of_lt small
