use Rattle.bsession.proofs.TwoSlices.{two_are_one}
use Rattle.bsession.proofs.law.two_slices_are_one.Goals as goal

pub returns : goal.returns
returns c = two_are_one
