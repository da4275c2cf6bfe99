use Rattle.std.proofs.Common.{refl}
use Rattle.bcli.proofs.origins.read_origin.Goals as goal

pub returns-in-Ok-clause-ok : goal.returns-in-Ok-clause-ok
returns-in-Ok-clause-ok g c = rw c.in-Made.is (c.in-Ok.made, c.in-Ok.ensures.ok, refl)
