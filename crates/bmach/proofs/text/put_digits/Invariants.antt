use Rattle.std.proofs.Common.{◌≡◌, ◌+◌, ◌^◌, ℕ, ◌<◌, ◌≤◌, false, drop, length}
use Rattle.std.specs.Fmt.{digits, digits_onto}
use Rattle.bmach.proofs.text.put_digits.Given as goal

-- the digits of what is left come before those that were put
abbrev pub invariant-digits : goal.invariant-digits
invariant-digits l = record {
  room : length l.buffer ≡ 17;
  range : (1 ≤ l.start) × (l.start ≤ 16);
  enough : l.left < 2 ^ l.start;
  digits : (fuel : ℕ) → fuel ≡ 48 + l.start → digits_onto fuel l.base false l.left (drop (l.start + 1) l.buffer) ≡ digits l.base false l.fn.number;
}

abbrev pub decreases-digits : goal.decreases-digits
decreases-digits l = l.left
