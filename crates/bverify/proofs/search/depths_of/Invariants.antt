use Rattle.std.proofs.Common.{◌+◌, length}
use Rattle.bverify.specs.Search.{found_by}
use Rattle.bverify.proofs.Searching.{IsSearched, unknowns}
use Rattle.bverify.proofs.search.depths_of.Given as goal

abbrev pub invariant-loop-place : goal.invariant-loop-place
invariant-loop-place l = IsSearched l.fn.targets l.fn.code (found_by l.search)

abbrev pub decreases-loop-place : goal.decreases-loop-place
decreases-loop-place l = unknowns l.search.depths.items + length l.search.pending.items
