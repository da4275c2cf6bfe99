use Rattle.std.proofs.Common.{refl}
use Rattle.bcore.proofs.process.OutputEndByteOut.TheImpl.Goals as goal

pub put-tells : goal.put-tells
put-tells g c = record { gives = c.ensures.gives; whole = λ never. absurd (cc); fits = c.ensures.fits; lets_go = c.ensures.lets_go; same = refl }
