-- Words filled up with zeros.
use Rattle.std.proofs.Common.{◌≡◌, ℕ, ◌+◌, ◌-◌, List, ◌++◌, length, take, replicate, ap, ◌∙◌, append_assoc, arith, length-append, max}
use Rattle.std.proofs.lemmas.List.{take_all}
use Rattle.blang.specs.Layout.{padded}

-- the words so far and values after them, filled up to the least number of values
pub padded_after : (old values : List ℕ) (least end count : ℕ) → end ≡ length old + max least (length values) → count ≡ length (old ++ values) → take end (old ++ values) ++ replicate (end - count) 0 ≡ old ++ padded least values
padded_after old values least end count is_end is_count =
    let whole : take end (old ++ values) ≡ old ++ values = take_all end (old ++ values) (omega (arith, length-append old values)) in
    let missing : end - count ≡ least - length values = omega (arith, length-append old values) in
    ap (λ ws. ws ++ replicate (end - count) 0) whole ∙ ap (λ n. (old ++ values) ++ replicate n 0) missing ∙ append_assoc old values (replicate (least - length values) 0)
