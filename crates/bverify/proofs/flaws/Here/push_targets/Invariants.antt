use Rattle.std.proofs.Common.{◌≡◌, map, take}
use Rattle.std.specs.Prelude.{fold}
use Rattle.bverify.specs.Depths.{way}
use Rattle.bverify.specs.Flaws.{with_way_flaws}
use Rattle.bverify.proofs.flaws.Here.push_targets.Given as goal

abbrev pub invariant-loop-target : goal.invariant-loop-target
invariant-loop-target l =
    l.flaws.items
    ≡ fold (with_way_flaws l.fn.self.depths.now l.fn.self.place) l.fn.flaws.items
    (map (λ t. way t l.depth) (take l.target-index l.target-items))
