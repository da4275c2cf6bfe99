-- Stores of zeros.
use Rattle.std.proofs.Common.{◌≡◌, ℕ, zero, suc, ◌<◌, List, replicate, get_or, lit<, ap, ◌∙◌}
use Rattle.std.proofs.lemmas.List.{length-replicate}
use Rattle.bword.specs.Words.{IsStore, zeros}

replicate-zero : (n a : ℕ) → get_or (replicate n 0) a 0 < 65536
replicate-zero zero a = lit< tt
replicate-zero (suc n) zero = lit< tt
replicate-zero (suc n) (suc a) = replicate-zero n a

pub IsStore-replicate : (words : List ℕ) (n : ℕ) → n ≡ 65536 → words ≡ replicate n 0 → IsStore words
IsStore-replicate words n e h = record {
  count = rw h (length-replicate n 0 ∙ e);
  below = λ a. rw h (replicate-zero n a);
}

pub zeros-replicate : (words : List ℕ) (n : ℕ) → n ≡ 65536 → words ≡ replicate n 0 → words ≡ zeros
unfolding zeros
zeros-replicate words n e h = h ∙ ap (λ k. replicate k 0) e
