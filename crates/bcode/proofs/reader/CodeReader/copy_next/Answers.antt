use Rattle.bcode.proofs.CopyLaws.{text_call}
use Rattle.bcode.proofs.reader.CodeReader.copy_next.Goals as goal

pub invariant_of-self : goal.invariant_of-self
invariant_of-self g c =
    (text_call c.self.inside.edition (g.I.ByteIn.incoming c.self.inside.first_input.value) (g.I.ByteIn.lender c.self.inside.first_input.value) c.self.inside.is_begun c.self.inside.is_closed c.self.inside.lines c.copy_next-result.new.lines
    _ _ (rw (← c.self.view_is) at c.requires) c.self.invariant _ (rw (← c.self.view_is) at c.opens-opens.ensures) _ c.copy_next-result.ensures _ c.is_last-self-inside.ensures).1

pub returns-clause-gives : goal.returns-clause-gives
returns-clause-gives g c =
    rw (← c.self.view_is) ((text_call c.self.inside.edition (g.I.ByteIn.incoming c.self.inside.first_input.value) (g.I.ByteIn.lender c.self.inside.first_input.value) c.self.inside.is_begun c.self.inside.is_closed c.self.inside.lines c.copy_next-result.new.lines
    _ _ (rw (← c.self.view_is) at c.requires) c.self.invariant _ (rw (← c.self.view_is) at c.opens-opens.ensures) _ c.copy_next-result.ensures _ c.is_last-self-inside.ensures).0)
