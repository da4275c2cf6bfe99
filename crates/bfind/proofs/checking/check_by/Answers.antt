use Rattle.bfind.specs.Finds.{checked}
use Rattle.bfind.proofs.checking.check_by.Goals as goal

pub returns-in-Ok-clause-checks : goal.returns-in-Ok-clause-checks
returns-in-Ok-clause-checks g c =
    checked c.check-checked.result (g.O.ByteOut.outgoing c.check-checked.new.out) c.check-checked.ensures.checks c.tell_more.ensures.tells c.in-Ok.ensures.silent
