use Rattle.std.proofs.Common.{◌≡◌, ◌+◌, drop}
use Rattle.bfix.specs.OwnText.{own_length}
use Rattle.bfix.proofs.edits.own_length.Given as goal

abbrev pub invariant-loop-index : goal.invariant-loop-index
invariant-loop-index l = own_length l.fn.lines l.text ≡ l.index + own_length l.left (drop l.index l.text)
