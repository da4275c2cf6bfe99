-- Numbers one after another.
use Rattle.std.proofs.Common.{◌≡◌, ◌∙◌, ℕ, ◌+◌, ◌-◌, ◌≤◌, List, [], ◌∷◌, ◌++◌, ap, append_assoc, arith, sym}
use Rattle.std.specs.List.{range_with_len}
use Rattle.btools.proofs.Ranges.{one_more}

pub next_number : (first number : ℕ) (old lines new : List ℕ) → first ≤ number → lines ≡ old ++ range_with_len first (number - first) → new ≡ lines ++ number ∷ [] → new ≡ old ++ range_with_len first (number + 1 - first)
next_number first number old lines new le before more =
    let k = number - first in
    let longer : number + 1 - first ≡ k + 1 = omega (arith, le) in
    let last : first + k ≡ number = omega (arith, le) in
    more ∙ ap (λ t. t ++ number ∷ []) before ∙ append_assoc old (range_with_len first k) (number ∷ [])
    ∙ ap (λ n. old ++ (range_with_len first k ++ n ∷ [])) (sym last) ∙ ap (λ t. old ++ t) (sym (one_more first k)) ∙ ap (λ n. old ++ range_with_len first n) (sym longer)
