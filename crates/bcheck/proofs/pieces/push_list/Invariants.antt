use Rattle.std.proofs.Common.{◌≡◌, ◌++◌, codes, take}
use Rattle.std.specs.List.{flat_map}
use Rattle.bcheck.specs.Pieces.{edit_text}
use Rattle.bcheck.proofs.pieces.push_list.Given as goal

abbrev pub invariant-loop-edit : goal.invariant-loop-edit
invariant-loop-edit l =
    l.text ≡ ((l.fn.text ++ codes ",\"edits\":[") ++ edit_text l.fn.first) ++ flat_map (λ x. codes "," ++ edit_text x) (take l.edit-index l.others)
