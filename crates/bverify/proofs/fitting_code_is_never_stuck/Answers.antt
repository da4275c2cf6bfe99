use Rattle.bverify.proofs.Standing.{never_stuck}
use Rattle.bverify.proofs.fitting_code_is_never_stuck.Goals as goal

pub returns : goal.returns
returns c = never_stuck
