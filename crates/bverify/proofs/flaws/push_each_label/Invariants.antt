use Rattle.std.proofs.Common.{◌≡◌, ◌++◌, drop}
use Rattle.bverify.specs.Flaws.{labels_from}
use Rattle.bverify.proofs.flaws.push_each_label.Given as goal

abbrev pub invariant-loop-label : goal.invariant-loop-label
invariant-loop-label l =
    l.flaws.items ++ labels_from l.label (drop l.label l.fn.targets) ≡ l.fn.flaws.items ++ labels_from 0 l.fn.targets
