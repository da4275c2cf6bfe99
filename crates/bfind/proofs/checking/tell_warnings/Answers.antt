use Rattle.std.proofs.Common.{inl, inr, refl}
use Rattle.bfind.proofs.checking.tell_warnings.Goals as goal

pub returns-in-Ok-clause-tells : goal.returns-in-Ok-clause-tells
returns-in-Ok-clause-tells g c = inl (c.args.own.now, c.in-Ok.text, c.in-Ok.ensures, rw (← c.as_slice.ensures) c.tell.ensures.told)
