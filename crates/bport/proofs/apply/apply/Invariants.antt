use Rattle.std.proofs.Common.{◌≡◌, ◌++◌, drop}
use Rattle.bport.specs.Edits.{edited}
use Rattle.bport.proofs.apply.apply.Given as goal

abbrev pub invariant-loop-edit : goal.invariant-loop-edit
invariant-loop-edit l = l.text ++ edited l.source l.at (drop l.edit-index l.edits) ≡ edited l.source 0 l.edits
