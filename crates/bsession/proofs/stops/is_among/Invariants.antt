use Rattle.std.proofs.Common.{◌≡◌, false, take}
use Rattle.std.specs.List.{list_any}
use Rattle.bsession.specs.Stops.{is_at}
use Rattle.bsession.proofs.stops.is_among.Given as goal

abbrev pub invariant-loop-place : goal.invariant-loop-place
invariant-loop-place l = list_any (is_at l.call) (take l.place-index l.places) ≡ false
