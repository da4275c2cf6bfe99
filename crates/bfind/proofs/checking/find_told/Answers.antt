use Rattle.std.proofs.Common.{refl}
use Rattle.bfind.specs.Finds.{looked}
use Rattle.bfind.proofs.checking.find_told.Goals as goal

pub returns-in-Ok-clause-finds : goal.returns-in-Ok-clause-finds
returns-in-Ok-clause-finds g c = λ ds line code.
    looked ds c.in-Ok.text code c.in-Ok.ensures (rw (← c.as_slice.ensures) c.tell_found.ensures.tells) refl
