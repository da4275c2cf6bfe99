use Rattle.std.proofs.Common.{ap, sym, []}
use Rattle.blang.specs.Cut.{fixed_or_stray}
use Rattle.blex.proofs.operators.one_or_stray.Goals as goal

pub returns-in-None : goal.returns-in-None
returns-in-None c = λ characters. ap (λ o. fixed_or_stray o []) (sym (c.in-None.ensures []))
