use Rattle.std.proofs.Common.{inl, inr, refl}
use Rattle.bcli.proofs.finding.find_all.Goals as goal

pub returns-in-Ok-clause-finds : goal.returns-in-Ok-clause-finds
returns-in-Ok-clause-finds g c = λ unread. inr (c.in-Ok.own, rw (← c.in-Ok.ensures.silent) (c.find_own.ensures.finds unread))

pub returns-in-Err-clause-finds : goal.returns-in-Err-clause-finds
returns-in-Err-clause-finds g c = λ unread. inl (record { unread = refl; silent = refl }, c.in-Err.ensures.refused)
