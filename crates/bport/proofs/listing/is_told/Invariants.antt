use Rattle.std.proofs.Common.{◌≡◌, drop}
use Rattle.bport.specs.Changes.{is_told}
use Rattle.bport.proofs.listing.is_told.Given as goal

abbrev pub invariant-loop-told : goal.invariant-loop-told
invariant-loop-told l = is_told (drop l.told-index l.rows) l.row ≡ is_told l.rows l.row
