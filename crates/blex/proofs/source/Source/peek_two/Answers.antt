use Rattle.std.proofs.Common.{sym}
use Rattle.blex.proofs.ByteSteps.{on_err}
use Rattle.blex.proofs.Passing.{peeked_two, peeked_both, peeked_breaks}
use Rattle.blex.proofs.source.Source.peek_two.Goals as goal

pub returns-then-is_some-clause-ok : goal.returns-then-is_some-clause-ok
returns-then-is_some-clause-ok g c =
    peeked_both _ _ _ _ _ _ _ _ (rw c.in-Some.is at c.in_ok-first.ensures.ok) c.self.view_is c.self.invariant (sym c.if-is_some.ensures)

pub returns-clause-ok : goal.returns-clause-ok
returns-clause-ok g c =
    peeked_two _ _ _ _ _ _ _ _ _ _ _ (rw c.in-Some.is at c.in_ok-first.ensures.ok) c.self.view_is c.self.invariant (sym c.if-is_some.ensures) c.in_ok-self-inside.ensures.gives c.in_ok-self-inside.ensures.same

pub returns-in_err-self-inside-clause-err : goal.returns-in_err-self-inside-clause-err
returns-in_err-self-inside-clause-err g c =
    on_err _ (peeked_breaks _ _ _ _ _ _ _ _ c.in_ok-first.ensures.ok.0 c.self.view_is c.in_err-self-inside.ensures.gives c.in_err-self-inside.ensures.same)
