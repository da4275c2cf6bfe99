use Rattle.std.proofs.Common.{take}
use Rattle.std.specs.List.{All}
use Rattle.bfix.specs.Due.{IsDue}
use Rattle.bfix.specs.Fixes.{setting_of}
use Rattle.bfix.proofs.due.due_at_one.Given as goal

abbrev pub invariant-loop-place : goal.invariant-loop-place
invariant-loop-place l = All (λ place. IsDue (setting_of l.fn.frame) l.fn.old place → ⊥) (take l.place-index l.places)
