use Rattle.std.proofs.Common.{◌≡◌, false, take}
use Rattle.std.specs.List.{list_any}
use Rattle.bsession.specs.Stops.{has_changed}
use Rattle.bsession.proofs.stops.has_changed.Given as goal

abbrev pub invariant-loop-watched : goal.invariant-loop-watched
invariant-loop-watched l = list_any (has_changed l.stepper.store) (take l.watched-index l.words) ≡ false
