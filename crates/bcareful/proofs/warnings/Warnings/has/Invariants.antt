use Rattle.std.proofs.Common.{◌≡◌, drop}
use Rattle.std.specs.List.{list_any}
use Rattle.bcareful.specs.Warned.{is_at}
use Rattle.bcareful.proofs.warnings.Warnings.has.Given as goal

-- none of the places so far is that of the call
abbrev pub invariant-loop-place : goal.invariant-loop-place
invariant-loop-place l = list_any (is_at l.call) (drop l.place-index l.self.places.items) ≡ list_any (is_at l.call) l.self.places.items
