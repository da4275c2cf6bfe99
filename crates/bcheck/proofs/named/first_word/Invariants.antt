use Rattle.std.proofs.Common.{◌≡◌, ◌<◌, ℕ, drop, false, take}
use Rattle.bcheck.specs.UndefinedNames.{is_word_at}
use Rattle.bcheck.proofs.named.first_word.Given as goal

abbrev pub invariant-loop-start : goal.invariant-loop-start
invariant-loop-start l = (n : ℕ) → n < l.start → is_word_at l.name (take n l.source) (drop n l.source) ≡ false
