use Rattle.std.proofs.Common.{inl, inr, refl}
use Rattle.bcore.proofs.Answered.{held, named_for}
use Rattle.bcli.proofs.finding.check_read.Goals as goal

pub returns-in-Ok-clause-checks : goal.returns-in-Ok-clause-checks
returns-in-Ok-clause-checks g c = λ unread.
    inr (c.as_slice.result.now, held (g.S.Shelf.holdings c.args.shelf.now) c.args.rules.now _ _ c.as_slice.ensures.value c.in-Ok.ensures.text, refl, (rw c.check_request-asked.ensures at c.check_by.ensures.checks))

pub returns-in-Err-clause-checks : goal.returns-in-Err-clause-checks
returns-in-Err-clause-checks g c = λ unread.
    inl (named_for _ _ _ _ _ c.in-Err.ensures.fault (c.name_file.ensures.names unread (g.O.ByteOut.outgoing c.args.out.now)))
