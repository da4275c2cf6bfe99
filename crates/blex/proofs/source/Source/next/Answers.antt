use Rattle.std.proofs.Common.{rules, ◌≡◌, None}
use Rattle.blex.proofs.Passing.{none_of, Passes-taken}
use Rattle.blex.proofs.source.Source.next.Goals as goal

pub returns-clause-ok : goal.returns-clause-ok
returns-clause-ok g c =
    let none : c.self.inside.first ≡ None = none_of _ (search rules) in
    rw (← c.self.view_is) (Passes-taken _ _ _ _ _ _ _ _ _ _ none (c.self.invariant none) c.in_ok-byte.ensures.gives c.in_ok-byte.ensures.same c.line_after_byte-self-inside.ensures)
