use Rattle.std.proofs.Common.{◌≡◌, drop}
use Rattle.bport.specs.Edits.{are_sound}
use Rattle.bport.proofs.edit.are_sound.Given as goal

abbrev pub invariant-loop-edit : goal.invariant-loop-edit
invariant-loop-edit l =
    are_sound l.source l.places l.at (drop l.edit-index l.edits) ≡ are_sound l.source l.places 0 l.edits
