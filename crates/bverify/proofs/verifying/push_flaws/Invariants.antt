use Rattle.std.proofs.Common.{◌≡◌, ◌++◌, take}
use Rattle.std.specs.List.{flat_map}
use Rattle.bverify.specs.Verifies.{flaw_line}
use Rattle.bverify.proofs.verifying.push_flaws.Given as goal

abbrev pub invariant-loop-placed : goal.invariant-loop-placed
invariant-loop-placed l = l.text ≡ l.fn.text ++ flat_map (flaw_line l.name l.lines) (take l.placed-index l.flaws)
