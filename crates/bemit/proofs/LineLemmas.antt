-- Lines that are filled in.
use Rattle.std.proofs.Common.{◌≡◌, ℕ, zero, suc, ◌<◌, ◌≤◌, List, [], ◌∷◌, ◌++◌, length, refl, ap, arith}
use Rattle.bemit.specs.Trails.{padded}

-- one line that was missing
pub padded_more : (n line : ℕ) (lines : List ℕ) → length lines < n → padded n line (lines ++ line ∷ []) ≡ padded n line lines
padded_more zero line lines h = absurd (omega (arith, h))
padded_more (suc n) line [] h = refl
padded_more (suc n) line (l ∷ lines) h = ap (λ ls. l ∷ ls) (padded_more n line lines (let k : length lines < n = omega (arith, h) in k))

-- none is missing
pub padded_full : (n line : ℕ) (lines : List ℕ) → n ≤ length lines → padded n line lines ≡ lines
padded_full zero line lines h = refl
padded_full (suc n) line [] h = absurd (omega (arith, h))
padded_full (suc n) line (l ∷ lines) h = ap (λ ls. l ∷ ls) (padded_full n line lines (let k : n ≤ length lines = omega (arith, h) in k))
