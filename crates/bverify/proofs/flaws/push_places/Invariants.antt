use Rattle.std.proofs.Common.{◌≡◌, drop}
use Rattle.bverify.specs.Flaws.{flaws_from, place_flaws}
use Rattle.bverify.proofs.flaws.push_places.Given as goal

abbrev pub invariant-loop-place : goal.invariant-loop-place
invariant-loop-place l =
    flaws_from l.fn.targets l.fn.depths l.place (drop l.place l.fn.code) l.flaws.items
    ≡ place_flaws l.fn.targets l.fn.code l.fn.depths
