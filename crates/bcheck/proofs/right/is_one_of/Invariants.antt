use Rattle.std.proofs.Common.{◌≡◌, false, take}
use Rattle.std.specs.List.{list_any}
use Rattle.bword.specs.Words.{same_name}
use Rattle.bcheck.proofs.right.is_one_of.Given as goal

abbrev pub invariant-loop-other : goal.invariant-loop-other
invariant-loop-other l = list_any (λ other. same_name l.code other.now) (take l.other-index l.codes) ≡ false
