-- Inner words: a store of zeros.
use Rattle.std.specs.Prelude.{◌≡◌, ℕ, zero, suc, refl, replicate, slice_index}
use Rattle.bword.specs.Words.{IsStore, zeros}
use Rattle.bword.proofs.StoreLemmas.{IsStore-replicate}

pub zeros_are_store : IsStore zeros
unfolding zeros
zeros_are_store = IsStore-replicate _ 65536 refl refl

blank_at : (n address : ℕ) → slice_index (replicate n 0) address ≡ 0
blank_at zero address = refl
blank_at (suc n) zero = refl
blank_at (suc n) (suc address) = blank_at n address

pub zero_at : (address : ℕ) → slice_index zeros address ≡ 0
unfolding zeros
zero_at address = blank_at 65536 address
