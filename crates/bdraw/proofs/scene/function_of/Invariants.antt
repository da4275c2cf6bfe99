use Rattle.std.proofs.Common.{◌≡◌, None, take}
use Rattle.bdraw.proofs.CallsDrawn.{first_with}
use Rattle.bdraw.proofs.scene.function_of.Given as goal

-- none of those before is the one
abbrev pub invariant-loop-number : goal.invariant-loop-number
invariant-loop-number l = first_with l.strings (take l.number l.entries) (take l.number l.frames) ≡ None
