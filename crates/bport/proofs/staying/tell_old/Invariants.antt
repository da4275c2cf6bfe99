use Rattle.bport.specs.Staying.{TellsOldUpTo}
use Rattle.bport.proofs.staying.tell_old.Given as goal

abbrev pub invariant-loop-at : goal.invariant-loop-at
invariant-loop-at l = TellsOldUpTo l.at l.source l.places l.edits l.notes.items
