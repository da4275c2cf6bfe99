use Rattle.std.proofs.Common.{length, subst}
use Rattle.bport.specs.Staying.{TellsOldUpTo}
use Rattle.bport.proofs.StaySteps.{left_told}
use Rattle.bport.proofs.porting.refused.Goals as goal

pub returns-clause-left : goal.returns-clause-left
returns-clause-left c =
    let source = c.args.source.now in
    let places = c.args.places.now in
    let notes = c.tell_old.new.notes.items in
    left_told source places c.if-not-has_refused.kept.edits.items notes c.requires
    (subst (λ e. TellsOldUpTo (length source) source places e notes) c.deref.ensures.value c.in_ok-tell_old.ensures)
