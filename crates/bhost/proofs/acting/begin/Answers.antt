use Rattle.std.proofs.Common.{inr, refl}
use Rattle.bhost.proofs.Beginning.{lacks_room}
use Rattle.bhost.proofs.acting.begin.Goals as goal

pub returns-in-Err : goal.returns-in-Err
returns-in-Err c =
    let loaded = c.args.loaded.now in
    let image = loaded.program.image in
    let why = c.in-Err.outcome in
    rw c.none.ensures (inr (why, refl, c.in-Err.ensures, lacks_room image why loaded.begins c.in-Err.ensures))
