use Rattle.std.proofs.Common.{◌≡◌, drop}
use Rattle.bport.specs.Words.{are_kept}
use Rattle.bport.proofs.words.are_kept.Given as goal

abbrev pub invariant-loop-edit : goal.invariant-loop-edit
invariant-loop-edit l =
    are_kept l.source l.out l.put (drop l.edit-index l.edits) ≡ are_kept l.source 0 0 l.edits
