use Rattle.std.proofs.Common.{◌∙◌}
use Rattle.bcheck.proofs.CheckSteps.{tells_both}
use Rattle.bcheck.proofs.checking.tell_both.Goals as goal

pub returns-in-Ok-clause-tells : goal.returns-in-Ok-clause-tells
returns-in-Ok-clause-tells g c = λ form o files are. tells_both form o files _ _ _ _ _ _ _ (c.as_slice.ensures ∙ c.in-Ok.ensures) c.tell.ensures.told are
