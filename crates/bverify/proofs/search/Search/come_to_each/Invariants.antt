use Rattle.std.proofs.Common.{◌≡◌, map, take}
use Rattle.std.specs.Prelude.{fold}
use Rattle.bverify.specs.Depths.{way}
use Rattle.bverify.specs.Search.{found_by, with_way}
use Rattle.bverify.proofs.search.Search.come_to_each.Given as goal

abbrev pub invariant-loop-target : goal.invariant-loop-target
invariant-loop-target l =
    found_by l.self ≡ fold with_way (found_by l.fn.self) (map (λ t. way t l.depth) (take l.target-index l.targets))
