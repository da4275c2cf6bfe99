use Rattle.bcode.proofs.StreamLaws.{sees_end}
use Rattle.bcode.proofs.stream.Stream.is_over.Goals as goal

pub returns : goal.returns
returns g c = rw (← c.self.view_is) (sees_end c.in_ok-next.field-0 _ _ c.is_none.ensures c.in_ok-next.ensures.gives c.in_ok-next.ensures.same)
