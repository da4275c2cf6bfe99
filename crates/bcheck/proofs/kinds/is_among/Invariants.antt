use Rattle.std.proofs.Common.{◌≡◌, false, take}
use Rattle.std.specs.List.{list_any}
use Rattle.bword.specs.Words.{same_name}
use Rattle.bcheck.proofs.kinds.is_among.Given as goal

abbrev pub invariant-loop-word : goal.invariant-loop-word
invariant-loop-word l = list_any (λ word. same_name l.name word.now) (take l.word-index l.words) ≡ false
