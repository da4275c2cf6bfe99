use Rattle.std.proofs.Common.{refl}
use Rattle.bcheck.proofs.undefined.not_defined.Goals as goal

pub returns : goal.returns
returns c = (c.args.what, refl, refl)
