use Rattle.std.proofs.Common.{◌≡◌, ◌++◌, [], drop}
use Rattle.bport.specs.Changes.{listed}
use Rattle.bport.proofs.listing.push_changes.Given as goal

abbrev pub invariant-loop-edit : goal.invariant-loop-edit
invariant-loop-edit l =
    l.text ++ listed l.file l.source l.line l.at l.rows.items (drop l.edit-index l.edits)
    ≡ l.fn.text ++ listed l.file l.source 1 0 [] l.edits
