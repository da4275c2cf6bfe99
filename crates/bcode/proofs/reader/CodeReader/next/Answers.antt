use Rattle.bcode.proofs.ReaderLaws.{call_gives}
use Rattle.bcode.proofs.reader.CodeReader.next.Goals as goal

pub invariant_of-self : goal.invariant_of-self
invariant_of-self g c = (call_gives c.self.inside.edition (g.I.ByteIn.incoming c.self.inside.first_input.value) (g.I.ByteIn.lender c.self.inside.first_input.value) c.self.inside.is_begun c.self.inside.is_closed c.self.inside.lines c.read_next.new.lines
    c.if-self.false c.self.invariant _ (rw (← c.self.view_is) at c.opens-opens.ensures) _ c.read_next.ensures _ c.of-step.ensures _ c.is_last-self-inside.ensures).1

pub returns-clause-gives : goal.returns-clause-gives
returns-clause-gives g c = rw (← c.self.view_is) ((call_gives c.self.inside.edition (g.I.ByteIn.incoming c.self.inside.first_input.value) (g.I.ByteIn.lender c.self.inside.first_input.value) c.self.inside.is_begun c.self.inside.is_closed c.self.inside.lines c.read_next.new.lines
    c.if-self.false c.self.invariant _ (rw (← c.self.view_is) at c.opens-opens.ensures) _ c.read_next.ensures _ c.of-step.ensures _ c.is_last-self-inside.ensures).0)
